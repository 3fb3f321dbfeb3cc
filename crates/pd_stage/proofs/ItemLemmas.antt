-- Items, and what the sinks get of them.
use Rattle.std.proofs.Common.{◌≡◌, ℕ, List, [], ◌∷◌, ◌++◌, refl, sym, ◌∙◌, ap, append_assoc, Option, None, inl, inr}
use Rattle.std.proofs.lemmas.List.{map-append}
use Rattle.pd_io.specs.Rows.{KeptOrUntold, stored}
use Rattle.pd_io.specs.Stream.{grown}
use Rattle.pd_io.specs.declared.files.FileRow.{FileRow}
use Rattle.pd_say.proofs.GatheringLemmas.{grown-grown, printed_nothing}
use Rattle.pd_stage.specs.Items.{Item, LineByte, SampleByte, Put, said, heard, line_of, sample_of, lines_of, samples_of, held_after, IsFront}

pub lines-append : (a b : List Item) → lines_of (a ++ b) ≡ lines_of a ++ lines_of b
unfolding lines_of
lines-append [] b = refl
lines-append (i ∷ a) b = ap (λ (x : List ℕ). line_of i ++ x) (lines-append a b) ∙ sym (append_assoc (line_of i) (lines_of a) (lines_of b))

pub samples-append : (a b : List Item) → samples_of (a ++ b) ≡ samples_of a ++ samples_of b
unfolding samples_of
samples-append [] b = refl
samples-append (i ∷ a) b = ap (λ (x : List ℕ). sample_of i ++ x) (samples-append a b) ∙ sym (append_assoc (sample_of i) (samples_of a) (samples_of b))

pub lines-none : lines_of [] ≡ []
unfolding lines_of
lines-none = refl

pub samples-none : samples_of [] ≡ []
unfolding samples_of
samples-none = refl

pub said-none : said [] ≡ []
unfolding said
said-none = refl

pub said-append : (a b : List ℕ) → said (a ++ b) ≡ said a ++ said b
unfolding said
said-append a b = map-append LineByte a b

pub heard-append : (a b : List ℕ) → heard (a ++ b) ≡ heard a ++ heard b
unfolding heard
heard-append a b = map-append SampleByte a b

pub lines-said : (b : List ℕ) → lines_of (said b) ≡ b
unfolding lines_of said
lines-said [] = refl
lines-said (x ∷ b) = ap (λ (y : List ℕ). x ∷ y) (lines-said b)

pub samples-said : (b : List ℕ) → samples_of (said b) ≡ []
unfolding samples_of said
samples-said [] = refl
samples-said (x ∷ b) = samples-said b

pub lines-heard : (b : List ℕ) → lines_of (heard b) ≡ []
unfolding lines_of heard
lines-heard [] = refl
lines-heard (x ∷ b) = lines-heard b

pub samples-heard : (b : List ℕ) → samples_of (heard b) ≡ b
unfolding samples_of heard
samples-heard [] = refl
samples-heard (x ∷ b) = ap (λ (y : List ℕ). x ∷ y) (samples-heard b)

-- ---- what a folder holds

held-append : (a b : List Item) (h : Option (List FileRow)) → held_after (a ++ b) h ≡ held_after b (held_after a h)
unfolding held_after
held-append [] b h = refl
held-append (LineByte x ∷ a) b h = held-append a b h
held-append (SampleByte x ∷ a) b h = held-append a b h
held-append (Put name x ∷ a) b h = held-append a b (stored name x h)

pub held-none : (h : Option (List FileRow)) → held_after [] h ≡ h
unfolding held_after
held-none h = refl

pub held-said : (b : List ℕ) (h : Option (List FileRow)) → held_after (said b) h ≡ h
unfolding held_after said
held-said [] h = refl
held-said (x ∷ b) h = held-said b h

pub held-heard : (b : List ℕ) (h : Option (List FileRow)) → held_after (heard b) h ≡ h
unfolding held_after heard
held-heard [] h = refl
held-heard (x ∷ b) h = held-heard b h

pub held-put : (name bytes : List ℕ) (h : Option (List FileRow)) → held_after (Put name bytes ∷ []) h ≡ stored name bytes h
unfolding held_after
held-put name bytes h = refl

pub lines-put : (name bytes : List ℕ) → lines_of (Put name bytes ∷ []) ≡ []
unfolding lines_of
lines-put name bytes = refl

pub samples-put : (name bytes : List ℕ) → samples_of (Put name bytes ∷ []) ≡ []
unfolding samples_of
samples-put name bytes = refl

held-untold : (a : List Item) → held_after a None ≡ None
unfolding held_after
held-untold [] = refl
held-untold (LineByte x ∷ a) = held-untold a
held-untold (SampleByte x ∷ a) = held-untold a
held-untold (Put name x ∷ a) = held-untold a

-- nothing was put
pub kept_same : (a : List Item) (h : Option (List FileRow)) → held_after a h ≡ h → KeptOrUntold (held_after a h) h
kept_same a h e = inl (sym e)

-- of what is kept, or untold, more is put
untold_on : (h₂ h₃ : Option (List FileRow)) (b : List Item) → h₂ ≡ None → KeptOrUntold (held_after b h₂) h₃ → h₃ ≡ None
untold_on h₂ h₃ b e (inl k) = k ∙ ap (held_after b) e ∙ held-untold b
untold_on h₂ h₃ b e (inr k) = k

kept_then : (h₁ h₂ h₃ : Option (List FileRow)) (a b : List Item) → h₂ ≡ held_after a h₁ → KeptOrUntold (held_after b h₂) h₃ → KeptOrUntold (held_after (a ++ b) h₁) h₃
kept_then h₁ h₂ h₃ a b e (inl k) = inl (k ∙ ap (held_after b) e ∙ sym (held-append a b h₁))
kept_then h₁ h₂ h₃ a b e (inr k) = inr k

pub held_then : (h₁ h₂ h₃ : Option (List FileRow)) (a b : List Item) → KeptOrUntold (held_after a h₁) h₂ → KeptOrUntold (held_after b h₂) h₃ → KeptOrUntold (held_after (a ++ b) h₁) h₃
held_then h₁ h₂ h₃ a b (inl e) k = kept_then h₁ h₂ h₃ a b e k
held_then h₁ h₂ h₃ a b (inr e) k = inr (untold_on h₂ h₃ b e k)

-- what the sinks took of one list, and then of another
pub lines_on : (t₁ t₂ t₃ : Option (List ℕ)) (a b : List Item) → t₂ ≡ grown t₁ (lines_of a) → t₃ ≡ grown t₂ (lines_of b) → t₃ ≡ grown t₁ (lines_of (a ++ b))
lines_on t₁ t₂ t₃ a b h k =
    k ∙ ap (λ (o : Option (List ℕ)). grown o (lines_of b)) h ∙ grown-grown t₁ (lines_of a) (lines_of b) ∙ ap (λ (x : List ℕ). grown t₁ x) (sym (lines-append a b))

pub samples_on : (u₁ u₂ u₃ : Option (List ℕ)) (a b : List Item) → u₂ ≡ grown u₁ (samples_of a) → u₃ ≡ grown u₂ (samples_of b) → u₃ ≡ grown u₁ (samples_of (a ++ b))
samples_on u₁ u₂ u₃ a b h k =
    k ∙ ap (λ (o : Option (List ℕ)). grown o (samples_of b)) h ∙ grown-grown u₁ (samples_of a) (samples_of b) ∙ ap (λ (x : List ℕ). grown u₁ x) (sym (samples-append a b))

pub lines_said : (t t' : Option (List ℕ)) (b : List ℕ) → t' ≡ grown t b → t' ≡ grown t (lines_of (said b))
lines_said t t' b h = h ∙ ap (λ (x : List ℕ). grown t x) (sym (lines-said b))

pub no_lines : (t : Option (List ℕ)) → t ≡ grown t (lines_of [])
no_lines t = printed_nothing t (lines_of []) lines-none

pub no_samples : (u : Option (List ℕ)) → u ≡ grown u (samples_of [])
no_samples u = printed_nothing u (samples_of []) samples-none

-- fronts
pub front_after : (a part whole : List Item) → IsFront part whole → IsFront (a ++ part) (a ++ whole)
front_after a part whole h = record { rest = h.rest; is = ap (λ (x : List Item). a ++ x) h.is ∙ sym (append_assoc a part h.rest) }

pub front_more : (part whole more : List Item) → IsFront part whole → IsFront part (whole ++ more)
front_more part whole more h = record { rest = h.rest ++ more; is = ap (λ (x : List Item). x ++ more) h.is ∙ append_assoc part h.rest more }

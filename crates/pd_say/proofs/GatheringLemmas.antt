-- What was said, as bytes are held back and handed on.
use Rattle.std.proofs.Common.{◌≡◌, ℕ, List, [], ◌++◌, Option, Some, None, refl, ap, sym, ◌∙◌, subst, append_assoc}
use Rattle.std.proofs.lemmas.List.{append-nil}
use Rattle.pd_io.specs.Stream.{grown, TookPart}
use Rattle.pd_say.specs.Gathering.{IsSaid, Says, Fails}

pub grown-grown : (taken : Option (List ℕ)) (a b : List ℕ) → grown (grown taken a) b ≡ grown taken (a ++ b)
grown-grown None a b = refl
grown-grown (Some t) a b = ap (λ x. Some x) (append_assoc t a b)

regrouped : (a b c d : List ℕ) → (a ++ (b ++ c)) ++ d ≡ (a ++ b) ++ (c ++ d)
regrouped a b c d = simp append_assoc

-- a sink that had taken what was said but for what was held has now taken that too
pub caught_up : (before old mid : Option (List ℕ)) (held said : List ℕ) → IsSaid before old held said → mid ≡ grown old held → mid ≡ grown before said
caught_up before old mid held said s m =
    m ∙ ap (λ x. grown x held) s.taken ∙ grown-grown before s.out held ∙ ap (λ x. grown before x) (sym s.all)

-- what was held is handed on, and a part of it is taken
pub took_held : (before old new : Option (List ℕ)) (held said piece : List ℕ) → IsSaid before old held said → TookPart old new held →
    TookPart before new (said ++ piece)
took_held before old new held said piece s t =
    record {
      part = s.out ++ t.part;
      begins = record {
        rest = t.begins.rest ++ piece;
        is = ap (λ x. x ++ piece) (s.all ∙ ap (λ x. s.out ++ x) t.begins.is) ∙ regrouped s.out t.part t.begins.rest piece;
      };
      is = t.is ∙ ap (λ x. grown x t.part) s.taken ∙ grown-grown before s.out t.part;
    }

-- what was held is handed on, and then the piece
pub said_through : (before old mid new : Option (List ℕ)) (held held' said piece : List ℕ) → IsSaid before old held said → mid ≡ grown old held →
    held' ≡ [] → new ≡ grown mid piece → IsSaid before new held' (said ++ piece)
said_through before old mid new held held' said piece s m e n =
    record {
      out = said ++ piece;
      taken = n ∙ ap (λ x. grown x piece) (caught_up before old mid held said s m) ∙ grown-grown before said piece;
      all = sym (append-nil (said ++ piece)) ∙ ap (λ x. (said ++ piece) ++ x) (sym e);
    }

-- what was held is handed on, and then a part of the piece
pub took_through : (before old mid new : Option (List ℕ)) (held said piece : List ℕ) → IsSaid before old held said → mid ≡ grown old held →
    TookPart mid new piece → TookPart before new (said ++ piece)
took_through before old mid new held said piece s m t =
    record {
      part = said ++ t.part;
      begins = record { rest = t.begins.rest; is = ap (λ x. said ++ x) t.begins.is ∙ sym (append_assoc said t.part t.begins.rest) };
      is = t.is ∙ ap (λ x. grown x t.part) (caught_up before old mid held said s m) ∙ grown-grown before said t.part;
    }

-- one step after another
pub says_then : (t₁ t₂ t₃ : Option (List ℕ)) (h₁ h₂ h₃ a b : List ℕ) → Says t₁ h₁ t₂ h₂ a → Says t₂ h₂ t₃ h₃ b → Says t₁ h₁ t₃ h₃ (a ++ b)
says_then t₁ t₂ t₃ h₁ h₂ h₃ a b f g =
    record { goes_on = λ before said s. subst (λ x. IsSaid before t₃ h₃ x) (append_assoc said a b) (g.goes_on before (said ++ a) (f.goes_on before said s)) }

-- nothing is said
pub says_nothing : (t : Option (List ℕ)) (h : List ℕ) → Says t h t h []
says_nothing t h = record { goes_on = λ before said s. subst (λ x. IsSaid before t h x) (sym (append-nil said)) s }

pub took_more : (before new : Option (List ℕ)) (a b : List ℕ) → TookPart before new a → TookPart before new (a ++ b)
took_more before new a b t =
    record {
      part = t.part;
      begins = record { rest = t.begins.rest ++ b; is = ap (λ x. x ++ b) t.begins.is ∙ append_assoc t.part t.begins.rest b };
      is = t.is;
    }

-- a step fails after one that didn't
pub says_then_fails : (t₁ t₂ t₃ : Option (List ℕ)) (h₁ h₂ a b : List ℕ) → Says t₁ h₁ t₂ h₂ a → Fails t₂ h₂ t₃ b → Fails t₁ h₁ t₃ (a ++ b)
says_then_fails t₁ t₂ t₃ h₁ h₂ a b f g =
    record { breaks_off = λ before said s. subst (λ x. TookPart before t₃ x) (append_assoc said a b) (g.breaks_off before (said ++ a) (f.goes_on before said s)) }

-- what was still to be said after the step that failed
pub fails_sooner : (t₁ t₂ : Option (List ℕ)) (h a b : List ℕ) → Fails t₁ h t₂ a → Fails t₁ h t₂ (a ++ b)
fails_sooner t₁ t₂ h a b f =
    record { breaks_off = λ before said s. subst (λ x. TookPart before t₂ x) (append_assoc said a b) (took_more before t₂ (said ++ a) b (f.breaks_off before said s)) }

grown-nil : (t : Option (List ℕ)) → grown t [] ≡ t
grown-nil None = refl
grown-nil (Some t) = ap (λ x. Some x) (append-nil t)

starts : (t : Option (List ℕ)) → IsSaid t t [] []
starts t = record { out = []; taken = sym (grown-nil t); all = refl }

-- a line was said from its start, and what was held of it is handed on
pub taken_line : (old mid new : Option (List ℕ)) (h held line : List ℕ) → h ≡ [] → Says old h mid held line → new ≡ grown mid held → new ≡ grown old line
taken_line old mid new h held line e f m =
    caught_up old mid new held line (f.goes_on old [] (subst (λ x. IsSaid old old x []) (sym e) (starts old))) m

-- a line was said from its start, and of what was held a part is handed on
pub torn_line : (old mid new : Option (List ℕ)) (h held line : List ℕ) → h ≡ [] → Says old h mid held line → TookPart mid new held → TookPart old new line
torn_line old mid new h held line e f t =
    subst (λ x. TookPart old new x) (append-nil line)
    (took_held old mid new held line [] (f.goes_on old [] (subst (λ x. IsSaid old old x []) (sym e) (starts old))) t)

-- a line broke off
pub broken_line : (old new : Option (List ℕ)) (h line : List ℕ) → h ≡ [] → Fails old h new line → TookPart old new line
broken_line old new h line e f = f.breaks_off old [] (subst (λ x. IsSaid old old x []) (sym e) (starts old))

-- nothing was printed
pub printed_nothing : (t : Option (List ℕ)) (a : List ℕ) → a ≡ [] → t ≡ grown t a
printed_nothing t a e = sym (grown-nil t) ∙ ap (λ x. grown t x) (sym e)

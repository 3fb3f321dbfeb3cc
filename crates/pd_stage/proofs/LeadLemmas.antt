-- Parts of a run, one after another, with what their edits come to.
use Rattle.std.proofs.Common.{◌≡◌, ◌≤◌, ◌+◌, arith, ℕ, List, [], ◌∷◌, ◌++◌, refl, sym, ◌∙◌, ap, subst, append_assoc, Option, inl, inr}
use Rattle.std.proofs.lemmas.List.{append-nil, map-append}
use Rattle.pd_io.specs.Stream.{grown, TookPart}
use Rattle.pd_io.specs.declared.files.FileRow.{FileRow}
use Rattle.pd_stage.specs.Items.{Item, said, heard}
use Rattle.pd_stage.specs.Choices.{Choice}
use Rattle.pd_stage.specs.Stages.{Stage, Taken, choices_of, looks_of, faults_of, Passage, still, saying, after, joined, followed_by}
use Rattle.pd_stage.specs.Lawful.{AreLawful}
use Rattle.pd_stage.specs.Leads.{RoseBy, Sinks, sinks, Took, Leads, Begins, BreaksOff, Comes, Stops}
pub use Rattle.pd_stage.proofs.FolderLemmas.{folder_both}
use Rattle.pd_stage.proofs.FolderLemmas.{leaves_on}
use Rattle.pd_stage.proofs.ItemLemmas.{lines-none, samples-none, said-append, heard-append, lines-said, samples-said, lines-heard, samples-heard, held-none, held-said, held-heard, kept_same, held_then, lines_on, samples_on, no_lines, no_samples, front_after, front_more}

pub lawful_both : (a b : List Taken) → AreLawful a → AreLawful b → AreLawful (a ++ b)
lawful_both [] b h k = k
lawful_both (t ∷ a) b h k = (h.0, lawful_both a b h.1 k)

pub choices-append : (a b : List Taken) → choices_of (a ++ b) ≡ choices_of a ++ choices_of b
choices-append a b = map-append (λ (t : Taken). t.choice) a b

pub choices-more : (a b : List Taken) (more : List Choice) → choices_of (a ++ b) ++ more ≡ choices_of a ++ (choices_of b ++ more)
choices-more a b more = ap (λ (x : List Choice). x ++ more) (choices-append a b) ∙ append_assoc (choices_of a) (choices_of b) more

looks-append : (a b : List Taken) → looks_of (a ++ b) ≡ looks_of a + looks_of b
looks-append [] b = omega arith
looks-append (t ∷ a) b = let e : looks_of (a ++ b) ≡ looks_of a + looks_of b = looks-append a b in omega arith

faults-append : (a b : List Taken) → faults_of (a ++ b) ≡ faults_of a + faults_of b
faults-append [] b = omega arith
faults-append (t ∷ a) b = let e : faults_of (a ++ b) ≡ faults_of a + faults_of b = faults-append a b in omega arith

-- of two lists that are lawful together each is
pub lawful_first : (a b : List Taken) → AreLawful (a ++ b) → AreLawful a
lawful_first [] b h = tt
lawful_first (t ∷ a) b h = (h.0, lawful_first a b h.1)

pub lawful_second : (a b : List Taken) → AreLawful (a ++ b) → AreLawful b
lawful_second [] b h = h
lawful_second (t ∷ a) b h = lawful_second a b h.1

-- ---- counts of faults

rose_then : (m x y z : ℕ) → 18446744073709551615 ≤ y → RoseBy m y z → 18446744073709551615 ≤ z
rose_then m x y z h (inl k) = omega (arith, h, k)
rose_then m x y z h (inr k) = k

rose_more : (n m x y z : ℕ) → x + n ≤ y → RoseBy m y z → RoseBy (n + m) x z
rose_more n m x y z h (inl k) = inl (omega (arith, h, k))
rose_more n m x y z h (inr k) = inr k

rose_on : (n m x y z : ℕ) → RoseBy n x y → RoseBy m y z → RoseBy (n + m) x z
rose_on n m x y z (inl h) k = rose_more n m x y z h k
rose_on n m x y z (inr h) k = inr (rose_then m x y z h k)

rose_none : (x : ℕ) → RoseBy 0 x x
rose_none x = inl (omega arith)

-- ---- what was taken

pub took_then : (x y z : Sinks) (a b : List Item) (l m : List Taken) → Took x y a l → Took y z b m → Took x z (a ++ b) (l ++ m)
took_then x y z a b l m h k =
    let i : y.looks ≤ x.looks + looks_of l = h.few_looks in
    let j : z.looks ≤ y.looks + looks_of m = k.few_looks in
    let e : looks_of (l ++ m) ≡ looks_of l + looks_of m = looks-append l m in
    record {
      lines_are = lines_on x.lines y.lines z.lines a b h.lines_are k.lines_are;
      samples_are = samples_on x.samples y.samples z.samples a b h.samples_are k.samples_are;
      few_looks = omega arith;
      held_are = held_then x.held y.held z.held a b h.held_are k.held_are;
      leaves = leaves_on x.held y.held z.held l m h.leaves k.leaves;
      few_faults = subst (λ (n : ℕ). RoseBy n x.faults z.faults) (sym (faults-append l m)) (rose_on (faults_of l) (faults_of m) x.faults y.faults z.faults h.few_faults k.few_faults);
    }

took_none : (x : Sinks) → Took x x [] []
took_none x = record {
  lines_are = no_lines x.lines;
  samples_are = no_samples x.samples;
  few_looks = omega arith;
  held_are = kept_same [] x.held (held-none x.held);
  leaves = inl refl;
  few_faults = rose_none x.faults;
}

pub took_said : (t t' u : Option (List ℕ)) (k : ℕ) (h : Option (List FileRow)) (f : ℕ) (b : List ℕ) → t' ≡ grown t b → Took (sinks t u k h f) (sinks t' u k h f) (said b) []
took_said t t' u k h f b e = record {
  lines_are = e ∙ ap (λ (x : List ℕ). grown t x) (sym (lines-said b));
  samples_are = no_samples u ∙ ap (λ (x : List ℕ). grown u x) (samples-none ∙ sym (samples-said b));
  few_looks = omega arith;
  held_are = kept_same (said b) h (held-said b h);
  leaves = inl refl;
  few_faults = rose_none f;
}

pub took_heard : (t u u' : Option (List ℕ)) (k : ℕ) (h : Option (List FileRow)) (f : ℕ) (b : List ℕ) → u' ≡ grown u b → Took (sinks t u k h f) (sinks t u' k h f) (heard b) []
took_heard t u u' k h f b e = record {
  lines_are = no_lines t ∙ ap (λ (x : List ℕ). grown t x) (lines-none ∙ sym (lines-heard b));
  samples_are = e ∙ ap (λ (x : List ℕ). grown u x) (sym (samples-heard b));
  few_looks = omega arith;
  held_are = kept_same (heard b) h (held-heard b h);
  leaves = inl refl;
  few_faults = rose_none f;
}

-- ---- passages

pub after-after : (i j : List Item) (l m : List Taken) (p : Passage) → after i l (after j m p) ≡ after (i ++ j) (l ++ m) p
after-after i j l m p =
    ap (λ (x : List Item). record { stage = p.stage; items = x; edits = l ++ (m ++ p.edits) }) (sym (append_assoc i j p.items))
    ∙ ap (λ (x : List Taken). record { stage = p.stage; items = (i ++ j) ++ p.items; edits = x }) (sym (append_assoc l m p.edits))

pub after-joined : (i : List Item) (l : List Taken) (p q : Passage) → joined (after i l p) q ≡ after i l (joined p q)
after-joined i l p q =
    ap (λ (x : List Item). record { stage = q.stage; items = x; edits = (l ++ p.edits) ++ q.edits }) (append_assoc i p.items q.items)
    ∙ ap (λ (x : List Taken). record { stage = q.stage; items = i ++ (p.items ++ q.items); edits = x }) (append_assoc l p.edits q.edits)

pub joined_assoc : (p q r : Passage) → joined (joined p q) r ≡ joined p (joined q r)
joined_assoc p q r = after-joined p.items p.edits q r

pub joined_still : (p : Passage) → joined p (still p.stage) ≡ p
joined_still p =
    ap (λ (x : List Item). record { stage = p.stage; items = x; edits = p.edits ++ [] }) (append-nil p.items)
    ∙ ap (λ (x : List Taken). record { stage = p.stage; items = p.items; edits = x }) (append-nil p.edits)

-- ---- what was led to

pub leads_begin : (w : List Choice → Passage) (x : Sinks) → Leads w w x x
leads_begin w x = record { items = []; edits = []; same = λ more. refl; took = took_none x; lawful = tt; by_folder = tt }

unfoldable pub leads_then : (w r q : List Choice → Passage) (x y z : Sinks) → Leads w r x y → Leads r q y z → Leads w q x z
leads_then w r q x y z a b = record {
  items = a.items ++ b.items;
  edits = a.edits ++ b.edits;
  same = λ more. ap w (choices-more a.edits b.edits more) ∙ a.same (choices_of b.edits ++ more) ∙ ap (λ (p : Passage). after a.items a.edits p) (b.same more)
      ∙ after-after a.items b.items a.edits b.edits (q more);
  took = took_then x y z a.items b.items a.edits b.edits a.took b.took;
  lawful = lawful_both a.edits b.edits a.lawful b.lawful;
  by_folder = folder_both x.held y.held a.edits b.edits a.took.leaves a.by_folder b.by_folder;
}

-- and then something follows
pub leads_under : (w r : List Choice → Passage) (g : Stage → Passage) (x y : Sinks) → Leads w r x y
    → Leads (λ m. followed_by (w m) g) (λ m. followed_by (r m) g) x y
leads_under w r g x y a = record {
  items = a.items;
  edits = a.edits;
  same = λ more. ap (λ (p : Passage). followed_by p g) (a.same more) ∙ after-joined a.items a.edits (r more) (g (r more).stage);
  took = a.took;
  lawful = a.lawful;
  by_folder = a.by_folder;
}

pub leads_same : (w w' r : List Choice → Passage) (x y : Sinks) → ((m : List Choice) → w' m ≡ w m) → Leads w r x y → Leads w' r x y
leads_same w w' r x y e a = record {
  items = a.items;
  edits = a.edits;
  same = λ more. e (choices_of a.edits ++ more) ∙ a.same more;
  took = a.took;
  lawful = a.lawful;
  by_folder = a.by_folder;
}

pub leads_to : (w r r' : List Choice → Passage) (x y : Sinks) → ((m : List Choice) → r m ≡ r' m) → Leads w r x y → Leads w r' x y
leads_to w r r' x y e a = record {
  items = a.items;
  edits = a.edits;
  same = λ more. a.same more ∙ ap (λ (p : Passage). after a.items a.edits p) (e more);
  took = a.took;
  lawful = a.lawful;
  by_folder = a.by_folder;
}

-- ---- what broke off

pub begins_after : (i cut : List Item) (l log : List Taken) (p : Passage) → Begins cut log p → Begins (i ++ cut) (l ++ log) (after i l p)
begins_after i cut l log p h = record {
  front = front_after i cut p.items h.front;
  rest = h.rest;
  edits_are = ap (λ (x : List Taken). l ++ x) h.edits_are ∙ sym (append_assoc l log h.rest);
}

pub begins_more : (cut : List Item) (log : List Taken) (p q : Passage) → Begins cut log p → Begins cut log (joined p q)
begins_more cut log p q h = record {
  front = front_more cut p.items q.items h.front;
  rest = h.rest ++ q.edits;
  edits_are = ap (λ (x : List Taken). x ++ q.edits) h.edits_are ∙ append_assoc log h.rest q.edits;
}

-- nothing was taken
pub broke_none : (w : List Choice → Passage) (x : Sinks) → BreaksOff w x x
broke_none w x = record {
  items = [];
  edits = [];
  begins = λ more. record { front = record { rest = (w more).items; is = refl }; rest = (w more).edits; edits_are = refl };
  took = took_none x;
  lawful = tt;
  by_folder = tt;
}

pub broke_after : (w r : List Choice → Passage) (x y z : Sinks) → Leads w r x y → BreaksOff r y z → BreaksOff w x z
broke_after w r x y z a b = record {
  items = a.items ++ b.items;
  edits = a.edits ++ b.edits;
  begins = λ more. subst (λ (p : Passage). Begins (a.items ++ b.items) (a.edits ++ b.edits) p)
      (sym (ap w (choices-more a.edits b.edits more) ∙ a.same (choices_of b.edits ++ more)))
      (begins_after a.items b.items a.edits b.edits (r (choices_of b.edits ++ more)) (b.begins more));
  took = took_then x y z a.items b.items a.edits b.edits a.took b.took;
  lawful = lawful_both a.edits b.edits a.lawful b.lawful;
  by_folder = folder_both x.held y.held a.edits b.edits a.took.leaves a.by_folder b.by_folder;
}

pub broke_under : (w : List Choice → Passage) (g : Stage → Passage) (x y : Sinks) → BreaksOff w x y → BreaksOff (λ m. followed_by (w m) g) x y
broke_under w g x y a = record {
  items = a.items;
  edits = a.edits;
  begins = λ more. begins_more a.items a.edits (w (choices_of a.edits ++ more)) (g (w (choices_of a.edits ++ more)).stage) (a.begins more);
  took = a.took;
  lawful = a.lawful;
  by_folder = a.by_folder;
}

pub broke_same : (w w' : List Choice → Passage) (x y : Sinks) → ((m : List Choice) → w' m ≡ w m) → BreaksOff w x y → BreaksOff w' x y
broke_same w w' x y e a = record {
  items = a.items;
  edits = a.edits;
  begins = λ more. subst (λ (p : Passage). Begins a.items a.edits p) (sym (e (choices_of a.edits ++ more))) (a.begins more);
  took = a.took;
  lawful = a.lawful;
  by_folder = a.by_folder;
}

-- ---- one write of lines or of samples

unfoldable pub written_leads : (s : List Choice → Stage) (b : List ℕ) (t t' u : Option (List ℕ)) (k : ℕ) (h : Option (List FileRow)) (f : ℕ) → t' ≡ grown t b
    → Comes (λ x. saying x b) s s (sinks t u k h f) (sinks t' u k h f)
written_leads s b t t' u k h f e = record {
  items = said b;
  edits = [];
  same = λ more. ap (λ (x : List Item). record { stage = s more; items = x; edits = [] }) (sym (append-nil (said b)));
  took = took_said t t' u k h f b e;
  lawful = tt;
  by_folder = tt;
}

pub written_breaks : (s : List Choice → Stage) (b : List ℕ) (t t' u : Option (List ℕ)) (k : ℕ) (held : Option (List FileRow)) (f : ℕ) → TookPart t t' b
    → Stops (λ x. saying x b) s (sinks t u k held f) (sinks t' u k held f)
written_breaks s b t t' u k held f h = record {
  items = said h.part;
  edits = [];
  begins = λ more. record {
    front = record { rest = said h.begins.rest; is = ap said h.begins.is ∙ said-append h.part h.begins.rest };
    rest = [];
    edits_are = refl;
  };
  took = took_said t t' u k held f h.part h.is;
  lawful = tt;
  by_folder = tt;
}

abbrev pub hearing : Stage → List ℕ → Passage
hearing s b = record { stage = s; items = heard b; edits = [] }

pub heard_leads : (s : List Choice → Stage) (b : List ℕ) (t u u' : Option (List ℕ)) (k : ℕ) (h : Option (List FileRow)) (f : ℕ) → u' ≡ grown u b
    → Comes (λ x. hearing x b) s s (sinks t u k h f) (sinks t u' k h f)
heard_leads s b t u u' k h f e = record {
  items = heard b;
  edits = [];
  same = λ more. ap (λ (x : List Item). record { stage = s more; items = x; edits = [] }) (sym (append-nil (heard b)));
  took = took_heard t u u' k h f b e;
  lawful = tt;
  by_folder = tt;
}

pub heard_breaks : (s : List Choice → Stage) (b : List ℕ) (t u u' : Option (List ℕ)) (k : ℕ) (held : Option (List FileRow)) (f : ℕ) → TookPart u u' b
    → Stops (λ x. hearing x b) s (sinks t u k held f) (sinks t u' k held f)
heard_breaks s b t u u' k held f h = record {
  items = heard h.part;
  edits = [];
  begins = λ more. record {
    front = record { rest = heard h.begins.rest; is = ap heard h.begins.is ∙ heard-append h.part h.begins.rest };
    rest = [];
    edits_are = refl;
  };
  took = took_heard t u u' k held f h.part h.is;
  lawful = tt;
  by_folder = tt;
}

-- ---- one part after another

pub comes_then : (f g : Stage → Passage) (a b c : List Choice → Stage) (x y z : Sinks) → Comes f a b x y → Comes g b c y z
    → Comes (λ s. followed_by (f s) g) a c x z
comes_then f g a b c x y z h k =
    leads_then (λ m. followed_by (f (a m)) g) (λ m. g (b m)) (λ m. still (c m)) x y z (leads_under (λ m. f (a m)) (λ m. still (b m)) g x y h) k

pub stops_first : (f g : Stage → Passage) (a : List Choice → Stage) (x y : Sinks) → Stops f a x y → Stops (λ s. followed_by (f s) g) a x y
stops_first f g a x y h = broke_under (λ m. f (a m)) g x y h

pub stops_then : (f g : Stage → Passage) (a b : List Choice → Stage) (x y z : Sinks) → Comes f a b x y → Stops g b y z
    → Stops (λ s. followed_by (f s) g) a x z
stops_then f g a b x y z h k =
    broke_after (λ m. followed_by (f (a m)) g) (λ m. g (b m)) x y z (leads_under (λ m. f (a m)) (λ m. still (b m)) g x y h) k

-- ---- a loop: of a whole, a part has happened, and this is the rest

pub way_goes_on : (w : List Choice → Passage) (rest step next : Stage → Passage) (a b : List Choice → Stage) (x y z : Sinks)
    → Leads w (λ m. rest (a m)) x y → ((m : List Choice) → rest (a m) ≡ followed_by (step (a m)) next) → Comes step a b y z → Leads w (λ m. next (b m)) x z
way_goes_on w rest step next a b x y z h e k =
    leads_then w (λ m. rest (a m)) (λ m. next (b m)) x y z h
    (leads_same (λ m. followed_by (step (a m)) next) (λ m. rest (a m)) (λ m. next (b m)) y z e (leads_under (λ m. step (a m)) (λ m. still (b m)) next y z k))

pub way_breaks : (w : List Choice → Passage) (rest step next : Stage → Passage) (a : List Choice → Stage) (x y z : Sinks)
    → Leads w (λ m. rest (a m)) x y → ((m : List Choice) → rest (a m) ≡ followed_by (step (a m)) next) → Stops step a y z → BreaksOff w x z
way_breaks w rest step next a x y z h e k =
    broke_after w (λ m. rest (a m)) x y z h
    (broke_same (λ m. followed_by (step (a m)) next) (λ m. rest (a m)) y z e (broke_under (λ m. step (a m)) next y z k))

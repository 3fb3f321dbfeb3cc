-- Gathering, one file after the other.
use Rattle.std.proofs.Common.{◌≡◌, ℕ, List, [], ◌∷◌, ◌++◌, Option, Some, None, IfSome, refl, sym, ap, subst, ◌∙◌, append_assoc, append-nil}
use Rattle.std.specs.Option.{option_map_or}
use Rattle.pd_io.specs.declared.files.FileRow.{FileRow}
use Rattle.pd_library.specs.declared.answers.Answer.{Answer}
use Rattle.pd_gather.specs.declared.fetching.Fetch.{Fetch}
use Rattle.pd_gather.specs.Gather.{Known, Gathering, Asks, Full, learned, after, gathered, IsHeld, AreHeld, GathersBy, GoesOn}
use Rattle.pd_gather.specs.Steps.{IsGiven, LearnsOne, FillsTable}

module _ (ask : Known → Gathering) where
  gathered_last : (fs : List Fetch) (f : Fetch) (g : Gathering) → gathered ask (fs ++ f ∷ []) g ≡ after ask f (gathered ask fs g)
  gathered_last [] f g = refl
  gathered_last (e ∷ fs) f g = gathered_last fs f (after ask e g)

  held_last : (rows : List FileRow) (fs : List Fetch) (f : Fetch) (g : Gathering) → AreHeld ask rows fs g → IsHeld rows f (gathered ask fs g)
      → AreHeld ask rows (fs ++ f ∷ []) g
  held_last rows [] f g h i = (i, tt)
  held_last rows (e ∷ fs) f g h i = (h.0, held_last rows fs f (after ask e g) h.1 i)

  held_if : (holds : Option (List FileRow)) (fs : List Fetch) (f : Fetch) (g : Gathering) (s : ℕ) (k : Known) → gathered ask fs g ≡ Asks s k
      → IfSome holds (λ rows. AreHeld ask rows fs g) → IsGiven holds s k f → IfSome holds (λ rows. AreHeld ask rows (fs ++ f ∷ []) g)
  held_if None fs f g s k e h i = tt
  held_if (Some rows) fs f g s k e h i = held_last rows fs f g h (subst (IsHeld rows f) (sym e) i)

  none_held : (holds : Option (List FileRow)) (g : Gathering) → IfSome holds (λ rows. AreHeld ask rows [] g)
  none_held None g = tt
  none_held (Some rows) g = tt

  -- nothing is fetched yet
  pub begun : (holds : Option (List FileRow)) (k : Known) → GathersBy holds ask k (ask k)
  begun holds k = record { fetches = []; comes = refl; held = none_held holds (ask k) }

  -- one file more is fetched
  fetched : (holds : Option (List FileRow)) (first k : Known) (s : ℕ) (asking : Known) (f : Fetch) → GathersBy holds ask first (ask k)
      → ask k ≡ Asks s asking → IsGiven holds s asking f → GathersBy holds ask first (after ask f (Asks s asking))
  fetched holds first k s asking f g e i = record {
    fetches = g.fetches ++ f ∷ [];
    comes = gathered_last g.fetches f (ask first) ∙ ap (after ask f) (g.comes ∙ e);
    held = held_if holds g.fetches f (ask first) s asking (g.comes ∙ e) g.held i;
  }

  pub one_more : (holds : Option (List FileRow)) (first k : Known) (s : ℕ) (asking next : Known) → GathersBy holds ask first (ask k)
      → ask k ≡ Asks s asking → LearnsOne holds s asking next → GathersBy holds ask first (ask next)
  one_more holds first k s asking next g e l =
      subst (GathersBy holds ask first)
      (ap (λ o. option_map_or (λ a. ask (learned s asking a)) o Full) l.reads ∙ ap ask (sym l.learns))
      (fetched holds first k s asking l.fetch g e l.given)

  pub one_too_many : (holds : Option (List FileRow)) (first k : Known) (s : ℕ) (asking : Known) → GathersBy holds ask first (ask k)
      → ask k ≡ Asks s asking → FillsTable holds s asking → GathersBy holds ask first Full
  one_too_many holds first k s asking g e l =
      subst (GathersBy holds ask first)
      (ap (λ o. option_map_or (λ a. ask (learned s asking a)) o Full) l.reads)
      (fetched holds first k s asking l.fetch g e l.given)

  pub comes_to : (holds : Option (List FileRow)) (first k : Known) (end : Gathering) → GathersBy holds ask first (ask k) → ask k ≡ end
      → GathersBy holds ask first end
  comes_to holds first k end g e = subst (GathersBy holds ask first) e g

pub behind_on : (a b c : List (ℕ × Answer)) → GoesOn a b → GoesOn b c → GoesOn a c
behind_on a b c f g = record { more = f.more ++ g.more; is = g.is ∙ ap (λ l. l ++ g.more) f.is ∙ append_assoc a f.more g.more }

pub behind_same : (a : List (ℕ × Answer)) → GoesOn a a
behind_same a = record { more = []; is = sym (append-nil a) }

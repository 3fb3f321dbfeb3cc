-- What the words ask for, played with nothing passed over.
use Rattle.std.proofs.Common.{inl, inr, ℕ, List, Option, Some, None}
use Rattle.pd_clock.specs.declared.times.Rate.{Rate}
use Rattle.pd_again_law.specs.Runs.{Sinks}
use Rattle.pd_words.specs.Grammar.{Asked}
use Rattle.pd_play.specs.Patches.{PlaysOpened, PlaysMadeOpened, PlaysBy, PlaysAsked}
use Rattle.pd_play.specs.declared.status.Status.{Status}
use Rattle.pd_faithful.specs.Whole.{PlaysFreely, PlaysMadeFreely, PlaysByFreely, PlaysAskedFreely}

module _ (status : Status) (left left' : Option (List ℕ)) (read read' x y : ℕ) (old new : Sinks)
    (freely : (name : List ℕ) (rate : Rate) → PlaysOpened name rate status left left' read read' old new → PlaysFreely name rate status left left' read read' old new)
    (made : (n : ℕ) (name : List ℕ) (rate : Rate) (rest : Option (List ℕ)) → PlaysMadeOpened n name rate status rest old new → PlaysMadeFreely n name rate status rest old new) where
  by_freely : (make : Option ℕ) (name : List ℕ) (rate : Rate) → PlaysBy make name rate status left left' read read' x y old new
      → PlaysByFreely make name rate status left left' read read' x y old new
  by_freely None name rate (inl h) = inl h
  by_freely None name rate (inr h) = inr (freely name rate h)
  by_freely (Some n) name rate (inl h) = inl h
  by_freely (Some n) name rate (inr (rest, h)) = inr (rest, made n name rate rest h)

  pub asked_freely : (o : Option Asked) → PlaysAsked o status left left' read read' x y old new → PlaysAskedFreely o status left left' read read' x y old new
  asked_freely None h = tt
  asked_freely (Some a) h = λ rate is. by_freely a.make a.patch rate (h rate is)

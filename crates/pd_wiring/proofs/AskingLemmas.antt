-- A line that is there, and whether it fits.
use Rattle.std.proofs.Common.{◌≡◌, ℕ, Bool, true, false, length, sym, ap}
use Rattle.std.specs.Prelude.{Option, Some, None, Result, Ok, Err, nat_lt}
use Rattle.pd_order.proofs.Basics.{by_test}
use Rattle.pd_canvas.specs.declared.wires.Wire.{Wire}
use Rattle.pd_grove.specs.declared.ports.Side.TheVariants.{Inlets, Outlets}
use Rattle.pd_web.specs.declared.lines.Line.{Line}
use Rattle.pd_web.specs.declared.web.Web.{Web}
use Rattle.pd_web.specs.Hops.{ports_told}
use Rattle.pd_wiring.specs.declared.asking.WireRefusal.{WireRefusal}
use Rattle.pd_wiring.specs.declared.asking.WireRefusal.TheVariants.{NoBox, NoPort}
use Rattle.pd_wiring.specs.Asking.{line_fitting, line_between, line_by_keys}

not_both : (why : WireRefusal) (l : Line) → ◌≡◌ {A = Result Line WireRefusal} (Err why) (Ok l) → ⊥
not_both why l e = cc

same_line : (l m : Line) → ◌≡◌ {A = Result Line WireRefusal} (Ok l) (Ok m) → l ≡ m
same_line l m e = cc

-- a line that isn't there can't be put in, for the same reason
none_between : (w : Web) (v : Wire) (fit : Bool) (k j : ℕ) (why : WireRefusal) → line_between w v true k j ≡ Err why → line_between w v fit k j ≡ Err why
none_between w v fit k j why e = by_test (nat_lt v.outlet (length (ports_told w Outlets k)))
    (λ t. by_test (nat_lt v.inlet (length (ports_told w Inlets j)))
    (λ u. absurd (not_both why (record { source = k; outlet = v.outlet; sink = j; inlet = v.inlet }) (sym (rw (t, u) at e))))
    (λ u. rw (t, u) (rw (t, u) at e)))
    (λ t. rw t (rw t at e))

pub none_there : (w : Web) (v : Wire) (fit : Bool) (a b : Option ℕ) (why : WireRefusal) → line_by_keys w v true a b ≡ Err why → line_by_keys w v fit a b ≡ Err why
none_there w v fit None b why e = e
none_there w v fit (Some k) None why e = e
none_there w v fit (Some k) (Some j) why e = none_between w v fit k j why e

-- one that is there can be put in where it fits
some_between : (w : Web) (v : Wire) (fit : Bool) (k j : ℕ) (l : Line) → line_between w v true k j ≡ Ok l → line_between w v fit k j ≡ line_fitting fit l
some_between w v fit k j l e = by_test (nat_lt v.outlet (length (ports_told w Outlets k)))
    (λ t. by_test (nat_lt v.inlet (length (ports_told w Inlets j)))
    (λ u. rw (t, u) (ap (line_fitting fit) (same_line (record { source = k; outlet = v.outlet; sink = j; inlet = v.inlet }) l (rw (t, u) at e))))
    (λ u. absurd (not_both (NoPort v.sink v.inlet false) l (rw (t, u) at e))))
    (λ t. absurd (not_both (NoPort v.source v.outlet true) l (rw t at e)))

pub some_there : (w : Web) (v : Wire) (fit : Bool) (a b : Option ℕ) (l : Line) → line_by_keys w v true a b ≡ Ok l → line_by_keys w v fit a b ≡ line_fitting fit l
some_there w v fit None b l e = absurd (not_both (NoBox v.source) l e)
some_there w v fit (Some k) None l e = absurd (not_both (NoBox v.sink) l e)
some_there w v fit (Some k) (Some j) l e = some_between w v fit k j l e

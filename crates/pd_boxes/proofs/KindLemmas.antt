-- How many ports and blocks a box of a kind has.
use Rattle.std.proofs.Common.{◌≡◌, ℕ, zero, suc, ◌+◌, ◌-◌, ◌≤◌, Bool, true, false, nat_lt, cond, map, length, replicate, refl, sym, ap, ◌∙◌, lt-ltb, arith}
use Rattle.std.specs.Prelude.{if◌then◌else◌}
use Rattle.std.specs.List.{list_any}
use Rattle.std.proofs.lemmas.List.{length-append, length-map, length-replicate}
use Rattle.pd_object.specs.declared.kinds.Kind.{Kind}
use Rattle.pd_object.specs.Ports.{Ports, ports_of}
use Rattle.pd_tree.specs.Ports.{signals}
use Rattle.pd_grove.specs.declared.ports.Side.TheVariants.{Inlets, Outlets}
use Rattle.pd_web.specs.declared.jacks.Jack.{Jack}
use Rattle.pd_web.specs.Jacks.{plain_jack, kind_jacks}
use Rattle.pd_patch.specs.Values.{block_count}
use Rattle.pd_fit.proofs.KindPorts.{ports_sound}

signals_count : (s n : ℕ) → s ≤ n → length (map plain_jack (signals s n)) ≡ n
signals_count s n h =
    let all : s + (n - s) ≡ n = omega (arith, h) in
    length-map (signals s n) plain_jack ∙ length-append (replicate s true) (replicate (n - s) false)
    ∙ ap (λ x. x + length (replicate (n - s) false)) (length-replicate s true) ∙ ap (λ x. s + x) (length-replicate (n - s) false) ∙ all

none_sounds : (m : ℕ) → list_any (λ (j : Jack). j.is_signal) (map plain_jack (replicate m false)) ≡ false
none_sounds zero = refl
none_sounds (suc m) = none_sounds m

-- a box has a block for each outlet, where the first carries a signal
count_of : (s n : ℕ) → s ≤ n → block_count (map plain_jack (signals s n)) ≡ cond (nat_lt 0 s) n 0
count_of zero n h = ap (λ (b : Bool). if b then length (map plain_jack (signals 0 n)) else 0) (none_sounds (n - 0))
count_of (suc s) n h = signals_count (suc s) n h ∙ sym (ap (λ (b : Bool). cond b n 0) (lt-ltb 0 (suc s) (omega arith)))

pub inlet_count : (k : Kind) (p : Ports) → p ≡ ports_of k → p.inlets ≡ length (kind_jacks Inlets k)
inlet_count k p e = ap (λ (x : Ports). x.inlets) e ∙ sym (signals_count (ports_of k).signal_inlets (ports_of k).inlets (ports_sound k).ins)

pub outlet_count : (k : Kind) (p : Ports) → p ≡ ports_of k → p.outlets ≡ length (kind_jacks Outlets k)
outlet_count k p e = ap (λ (x : Ports). x.outlets) e ∙ sym (signals_count (ports_of k).signal_outlets (ports_of k).outlets (ports_sound k).outs)

pub blocks_count : (k : Kind) (p : Ports) → p ≡ ports_of k → cond (nat_lt 0 p.signal_outlets) p.outlets 0 ≡ block_count (kind_jacks Outlets k)
blocks_count k p e = ap (λ (x : Ports). cond (nat_lt 0 x.signal_outlets) x.outlets 0) e ∙ sym (count_of (ports_of k).signal_outlets (ports_of k).outlets (ports_sound k).outs)

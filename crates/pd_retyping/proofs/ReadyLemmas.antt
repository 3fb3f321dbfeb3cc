-- A patch with room set aside: it tells what it told, and the same wires at a box don't fit, and turn.
use Rattle.std.proofs.Common.{◌≡◌, ℕ, zero, suc, Bool, ◌&&◌, cond, not, List, [], ◌∷◌, ◌++◌, length, refl, ap, ◌∙◌, arith}
use Rattle.std.specs.Prelude.{replicate}
use Rattle.std.specs.List.{flat_map, range_with_len}
use Rattle.pd_object.specs.declared.kinds.Kind.{Kind}
use Rattle.pd_links.specs.declared.links.Links.{Links}
use Rattle.pd_links.specs.Linked.{SameLinks}
use Rattle.pd_grove.specs.declared.ports.Side.TheVariants.{Outlets}
use Rattle.pd_web.specs.declared.jacks.Jack.{Jack}
use Rattle.pd_web.specs.declared.lines.Line.{Line}
use Rattle.pd_web.specs.declared.web.Hop.{Hop}
use Rattle.pd_web.specs.Canvases.{keys_at}
use Rattle.pd_web.specs.Hops.{fan_hops, ports_told}
use Rattle.pd_web.proofs.ChangeLemmas.{same_more}
use Rattle.pd_present.specs.Presents.{number_in}
use Rattle.pd_patch.specs.declared.patch.Patch.{Patch}
use Rattle.pd_wiring.specs.Changes.{SameButRoom as SameButWireRoom}
use Rattle.pd_boxes.specs.Rows.{IsLonger}
use Rattle.pd_boxes.specs.Room.{SameButRoom}
use Rattle.pd_boxes.proofs.RoomLemmas.{keys_same}
use Rattle.pd_taking.specs.Loosening.{line_at}
use Rattle.pd_misfits.specs.declared.wires.BoxWire.{BoxWire}
use Rattle.pd_misfits.specs.Misfits.{is_at, is_fit, misfits, turning, turns}
use Rattle.pd_misfits.proofs.FitLemmas.{fits_still, turns_still}

-- Room set aside for a box, and then room for wires.

links_more : (a b c : Links) → SameLinks a b → SameLinks b c → SameLinks a c
links_more a b c S T = record {
  feeders = λ x. T.feeders x ∙ S.feeders x;
  followers = λ x. T.followers x ∙ S.followers x;
  spare_into = λ x. let s = S.spare_into x in let t = T.spare_into x in omega (arith, s, t);
  spare_from = λ x. let s = S.spare_from x in let t = T.spare_from x in omega (arith, s, t);
}

pub room_more : (p q r : Patch) → SameButRoom p q → SameButWireRoom q r → SameButRoom p r
room_more p q r S T = record {
  grove = rw T.grove S.grove;
  web = same_more p.web q.web r.web S.web T.web;
  names = rw T.names S.names;
  links = links_more p.links q.links r.links S.links T.links;
  orders = rw T.orders S.orders;
  numbers = rw T.numbers S.numbers;
  values = rw T.values S.values;
  clocks = rw T.timers S.clocks;
  end = rw T.timers S.end;
  rate = T.rate ∙ S.rate;
  present = T.present ∙ S.present;
}

-- The wires at a box that are meant.

abbrev zeros : ℕ → List ℕ
zeros n = replicate n 0

number_none : (n k : ℕ) → number_in (zeros n) k ≡ number_in [] k
number_none zero k = refl
number_none (suc n) zero = refl
number_none (suc n) (suc k) = number_none n k

longer_number : (xs : List ℕ) (n k : ℕ) → number_in (xs ++ zeros n) k ≡ number_in xs k
longer_number [] n k = number_none n k
longer_number (x ∷ xs) n zero = refl
longer_number (x ∷ xs) n (suc k) = longer_number xs n k

number_same : (old new : List ℕ) → IsLonger 0 old new → (k : ℕ) → number_in new k ≡ number_in old k
number_same old new L k = ap (λ (ns : List ℕ). number_in ns k) L.1 ∙ longer_number old L.0 k

abbrev wire_by : (ℕ → ℕ) → ℕ → Line → BoxWire
wire_by number x l = record {
  wire = record { source = number l.source; outlet = l.outlet; sink = number l.sink; inlet = l.inlet };
  line = l;
  key = x;
}

abbrev passed_by : (Line → Bool) → (ℕ → ℕ) → ℕ → Line → List BoxWire
passed_by test number x l = cond (test l) (wire_by number x l ∷ []) []

-- the wires of some boxes that a test lets pass, by the fan-outs and the numbers of the boxes
abbrev among_by : (ℕ → ℕ → List Hop) → (ℕ → List Jack) → (Line → Bool) → (ℕ → ℕ) → List ℕ → List BoxWire
among_by fans ports test number keys =
    flat_map (λ node. flat_map (λ outlet. flat_map (λ (h : Hop). passed_by test number h.key (line_at Outlets node outlet h)) (fans node outlet)) (range_with_len 0 (length (ports node)))) keys

module _ (p q : Patch) (canvas key : ℕ) (k : Kind) (S : SameButRoom p q) where
  among_same : (f g : Line → Bool) → ((l : Line) → g l ≡ f l)
      → among_by (fan_hops q.web) (ports_told q.web Outlets) g (number_in q.numbers.items) (keys_at q.grove canvas)
      ≡ among_by (fan_hops p.web) (ports_told p.web Outlets) f (number_in p.numbers.items) (keys_at p.grove canvas)
  among_same f g same = λ i.
      among_by (λ node outlet. S.web.fans node outlet i) (λ node. S.web.kept.ports Outlets node i) (λ l. same l i) (λ x. number_same p.numbers.items q.numbers.items S.numbers x i)
      (keys_same p.grove q.grove S.grove canvas i)

  pub misfits_ready : misfits q canvas key k ≡ misfits p canvas key k
  misfits_ready =
      among_same (λ l. is_at key l && not (is_fit p.web key k l)) (λ l. is_at key l && not (is_fit q.web key k l)) (λ l. ap (λ b. is_at key l && not b) (fits_still p.web q.web key k l S.web.kept))

  pub turning_ready : turning q canvas key k ≡ turning p canvas key k
  turning_ready = among_same (λ l. is_at key l && turns p.web key k l) (λ l. is_at key l && turns q.web key k l) (λ l. ap (λ b. is_at key l && b) (turns_still p.web q.web key k l S.web.kept))

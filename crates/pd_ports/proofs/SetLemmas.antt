-- A side of a box gets other ports.
use Rattle.std.proofs.Common.{◌≡◌, ℕ, ◌<◌, ◌^◌, List, length, slice_get, Some, sym, ap, ◌∙◌, subst, inl, inr}
use Rattle.std.proofs.lemmas.Bool.{cases_eq}
use Rattle.std.proofs.lemmas.List.{length-map}
use Rattle.std.proofs.lemmas.Option.{same_Some}
use Rattle.pd_wire.specs.Book.{Book, IsLinked}
use Rattle.pd_grove.specs.declared.ports.Side.{Side}
use Rattle.pd_web.specs.declared.jacks.Jack.{Jack}
use Rattle.pd_web.specs.declared.sockets.Port.{Port}
use Rattle.pd_web.specs.declared.sockets.Sockets.{Sockets}
use Rattle.pd_web.specs.declared.sockets.Spot.{Spot}
use Rattle.pd_web.specs.Sockets.{AreFew, AreTied, ports_at, jacks_of}
use Rattle.pd_web.specs.Spares.{AreFree}
use Rattle.pd_web.specs.Homes.{inner_in, inner_of}
use Rattle.pd_ports.specs.Ends.{AreLive, Drops}
use Rattle.pd_ports.specs.Moves.{AreOnce, AreApart, Respots, PutsSide, IsLeft, moved_port, moved_ports}
use Rattle.pd_ports.proofs.HomeLemmas.{inner_jacks}
use Rattle.pd_ports.proofs.TakeLemmas.{moved_told, jacks_moved}
use Rattle.pd_ports.proofs.MoveLemmas.{Scene, olds, news, IsMoved, cases_side}

pub moved_count : (old : List Port) (jacks : List Jack) → length (moved_ports old jacks) ≡ length jacks
moved_count old jacks = length-map jacks (moved_port old)

-- the ends of a side's ports live, each once
pub olds_live : (all : List Sockets) (spots : List Spot) (b : Book) (side : Side) (key : ℕ) → AreTied all spots b → AreLive b (ports_at all side key)
olds_live all spots b side key tied =
    let spot : ℕ → Spot = λ n. record { node = key; side = side; port = n } in
    record {
      live = λ i e h. (tied.placed (spot i) e h).live;
      once = λ i j e p q. ap (λ (s : Spot). s.port) (same_Some (spot i) (spot j) (sym (tied.placed (spot i) e p).told ∙ (tied.placed (spot j) e q).told));
    }

-- no end is that of two of the new ports
pub news_apart : (all : List Sockets) (spots : List Spot) (b : Book) (side : Side) (key : ℕ) (jacks : List Jack) → AreTied all spots b → AreOnce jacks → AreApart spots (moved_ports (ports_at all side key) jacks)
news_apart all spots b side key jacks tied once =
    let live = olds_live all spots b side key tied in
    let old = ports_at all side key in
    record {
      once = λ i j e p q.
          let x = moved_told old jacks i e p in
          let y = moved_told old jacks j e q in
          let n = live.once x.0 y.0 e x.2 y.2 in
          let box = same_Some x.1.0 y.1.0 (sym x.1.1 ∙ ap (λ (m : ℕ). inner_in (slice_get (jacks_of old) m)) n ∙ y.1.1) in
          once i j x.1.0 x.1.2 (y.1.2 ∙ ap (λ (m : ℕ). Some m) (sym box));
      within = λ i e p. let x = moved_told old jacks i e p in tied.spotted e (live.live x.0 e x.2);
    }

-- no box is two of the new ports
pub news_once : (old : List Port) (jacks : List Jack) → AreOnce jacks → (i m j : ℕ) → inner_of (moved_ports old jacks) i ≡ Some j → inner_of (moved_ports old jacks) m ≡ Some j → i ≡ m
news_once old jacks once i m j p q =
    let at = λ (n : ℕ). ap (λ (js : List Jack). inner_in (slice_get js n)) (sym (jacks_moved old jacks)) ∙ inner_jacks (moved_ports old jacks) n in
    once i m j (at i ∙ p) (at m ∙ q)

pub moved_few : (all all' : List Sockets) (key : ℕ) (side : Side) (ports : List Port) → PutsSide all all' key side ports → length ports < 2 ^ 32 → AreFew all → AreFew all'
moved_few all all' key side ports puts here few = λ s k.
    let P : List Port → Type 0 = λ xs. length xs < 2 ^ 32 in
    elim (cases_eq k key) [
      | inr a ↦ subst P (sym (puts.others s k (λ h. absurd (a h)))) (few s k)
      | inl a ↦ elim (cases_side s side) [
        | inr b ↦ subst P (sym (puts.others s k (λ h. b))) (few s k)
        | inl b ↦
            let Q : Side → Type 0 = λ t. length (ports_at all' t k) < 2 ^ 32 in
            let R : ℕ → Type 0 = λ n. length (ports_at all' side n) < 2 ^ 32 in
            subst Q (sym b) (subst R (sym a) (subst P (sym puts.is) here))
      ]
    ]

-- the lists that the calls had are the old ports and the new ones
pub moved_by : (s : Scene) (old new list : List Port) → old ≡ olds s → new ≡ news s → list ≡ news s → IsLinked s.book → AreTied s.all s.spots s.book → AreFree s.all s.book s.spare → AreOnce (jacks_of (olds s))
    → PutsSide s.all s.all_after s.key s.side list → Respots s.spots s.spots_after new s.side s.key → Drops s.book s.book_after (IsLeft old new) → IsMoved s
moved_by s old new list eo en el linked tied free once puts spots drops =
    let P : List Port → Type 0 = λ xs. PutsSide s.all s.all_after s.key s.side xs in
    let Q : List Port → Type 0 = λ xs. Respots s.spots s.spots_after xs s.side s.key in
    let R : List Port → Type 0 = λ xs. Drops s.book s.book_after (IsLeft xs new) in
    let T : List Port → Type 0 = λ xs. Drops s.book s.book_after (IsLeft (olds s) xs) in
    record { linked = linked; tied = tied; free = free; once = once; puts = subst P el puts; spots = subst Q en spots; drops = subst T en (subst R eo drops) }

-- Boxes that have come get their ports and blocks, one after the other.
use Rattle.std.proofs.Common.{◌≡◌, ◌≢◌, ℕ, Bool, true, false, ◌||◌, List, [], ◌∷◌, ◌++◌, append-nil, replicate, drop, nat_eq, Some, IsTrue, inl, inr, refl, sym, ap, ◌∙◌, subst, eqb-true, eq-eqb}
use Rattle.std.specs.Prelude.{slice_get, ◌⊎◌}
use mathlib.Core.Logic.{⊎_elim}
use Rattle.std.proofs.lemmas.Bool.{cases_eq, false≢true, or_cases}
use Rattle.slab.specs.Slab.{get}
use Rattle.pd_kind.specs.States.{silent_block}
use Rattle.pd_grove.specs.declared.grove.Grove.{Grove}
use Rattle.pd_grove.specs.declared.ports.Side.{Side}
use Rattle.pd_owning.specs.Bound.{is_among, AreNew}
use Rattle.pd_web.specs.declared.web.Web.{Web}
use Rattle.pd_web.specs.Hops.{port_told, ports_told}
use Rattle.pd_web.specs.Homes.{IsPortOf}
use Rattle.pd_web.specs.Jacks.{jacks_at, made_in}
use Rattle.pd_web.specs.Sockets.{made_at}
use Rattle.pd_ports.specs.Boxes.{HasPorts, KnowsPorts}
use Rattle.pd_ports.specs.Known.{KnowsHomes}
use Rattle.pd_patch.specs.Values.{Blocks}
use Rattle.pd_boxes.specs.Rows.{PutsUnder}
use Rattle.pd_instances.specs.declared.room.BoxRoom.{BoxRoom}
use Rattle.pd_instances.specs.declared.needs.Need.{Need}
use Rattle.pd_instances.specs.Needs.{need_at, AreRoomsFor}
use Rattle.pd_instances.specs.Layers.{IsNextRoom, OpensAll, PutsBlocks}

-- Keys among others.

pub true_of : (b : Bool) → b ≡ true → IsTrue b
true_of b e = e

pub is_true : (b : Bool) → IsTrue b → b ≡ true
is_true b t = t

or_none : (b : Bool) → (b || false) ≡ b
or_none true = refl
or_none false = refl

or_assoc : (a b c : Bool) → ((a || b) || c) ≡ (a || (b || c))
or_assoc true b c = refl
or_assoc false b c = refl

pub among_last : (ks : List ℕ) (k x : ℕ) → is_among (ks ++ k ∷ []) x ≡ (is_among ks x || nat_eq x k)
among_last [] k x = or_none (nat_eq x k)
among_last (y ∷ ks) k x = ap (λ b. nat_eq x y || b) (among_last ks k x) ∙ sym (or_assoc (nat_eq x y) (is_among ks x) (nat_eq x k))

-- a key is the last one, or among those before
pub last_or : (ks : List ℕ) (k x : ℕ) → IsTrue (is_among (ks ++ k ∷ []) x) → (x ≡ k) ⊎ IsTrue (is_among ks x)
last_or ks k x t = by (or_cases (is_among ks x) (nat_eq x k) (sym (among_last ks k x) ∙ is_true (is_among (ks ++ k ∷ []) x) t))
  where
    by : (is_among ks x ≡ true) ⊎ (nat_eq x k ≡ true) → (x ≡ k) ⊎ IsTrue (is_among ks x)
    by (inl e) = inr (true_of (is_among ks x) e)
    by (inr e) = inl (eqb-true x k e)

pub or_right : (b : Bool) → (b || true) ≡ true
or_right true = refl
or_right false = refl

pub among_left : (ks : List ℕ) (k x : ℕ) → IsTrue (is_among ks x) → IsTrue (is_among (ks ++ k ∷ []) x)
among_left ks k x t = true_of (is_among (ks ++ k ∷ []) x) (among_last ks k x ∙ ap (λ b. b || nat_eq x k) (is_true (is_among ks x) t))

pub among_here : (ks : List ℕ) (k : ℕ) → IsTrue (is_among (ks ++ k ∷ []) k)
among_here ks k = true_of (is_among (ks ++ k ∷ []) k) (among_last ks k k ∙ ap (λ b. is_among ks k || b) (eq-eqb k k refl) ∙ or_right (is_among ks k))

or_false : (a b : Bool) → (a || b) ≡ false → (a ≡ false) × (b ≡ false)
or_false true b e = absurd (false≢true (sym e))
or_false false b e = (refl, e)

-- a key that isn't among these is none of them
pub out_parts : (ks : List ℕ) (k x : ℕ) → is_among (ks ++ k ∷ []) x ≡ false → (is_among ks x ≡ false) × (x ≢ k)
out_parts ks k x f =
    let p = or_false (is_among ks x) (nat_eq x k) (sym (among_last ks k x) ∙ f) in
    (p.0, λ e. false≢true (sym p.1 ∙ eq-eqb x k e))

-- Ports.

module _ (g : Grove) (w v u : Web) (ks : List ℕ) (k : ℕ) (A : OpensAll g w v ks) (P : HasPorts v u k (λ side. jacks_at side g k) (made_in (get g.nodes k))) (H : KnowsPorts g v u k)
    (new : is_among ks k ≡ false) (alone : (j a b i m : ℕ) → IsPortOf g j a i → IsPortOf g j b m → a ≡ b) (still : KnowsHomes v → KnowsHomes u) where
  not_it : (x : ℕ) → IsTrue (is_among ks x) → x ≢ k
  not_it x t e = false≢true (sym new ∙ ap (is_among ks) (sym e) ∙ is_true (is_among ks x) t)

  pub open_more : OpensAll g w u (ks ++ k ∷ [])
  open_more = record {
    ports = λ side x t. ⊎_elim
        (λ (e : x ≡ k). subst (λ y. ports_told u side y ≡ jacks_at side g y) (sym e) (P.ports side))
        (λ (s : IsTrue (is_among ks x)). P.other_ports side x (not_it x s) ∙ A.ports side x s) (last_or ks k x t);
    made = λ x t. ⊎_elim
        (λ (e : x ≡ k). subst (λ y. made_at u.sockets.items y ≡ made_in (get g.nodes y)) (sym e) P.made)
        (λ (s : IsTrue (is_among ks x)). P.others_made x (not_it x s) ∙ A.made x s) (last_or ks k x t);
    other_ports = λ side x f. let o = out_parts ks k x f in P.other_ports side x o.1 ∙ A.other_ports side x o.0;
    others_made = λ x f. let o = out_parts ks k x f in P.others_made x o.1 ∙ A.others_made x o.0;
    lines = λ x. P.lines x ∙ A.lines x;
    fans = λ x o. P.fans x o ∙ A.fans x o;
    feeds = λ x i. P.feeds x i ∙ A.feeds x i;
    found = λ j x i t R. ⊎_elim
        (λ (e : x ≡ k). subst (λ y. (m : ℕ) × (port_told u j ≡ Some (y, m)) × IsPortOf g j y m) (sym e) (H.found j i (subst (λ y. IsPortOf g j y i) e R)))
        (λ (s : IsTrue (is_among ks x)).
        let F = A.found j x i s R in
        (F.0, H.others j (λ m S. not_it x s (alone j x k i m R S)) ∙ F.1, F.2)) (last_or ks k x t);
    others = λ j none.
        H.others j (λ i R. none k i (among_here ks k) R) ∙ A.others j (λ x i s R. none x i (among_left ks k x s) R);
    known = λ h. still (A.known h);
  }

pub open_none : (g : Grove) (w : Web) → OpensAll g w w []
open_none g w = record {
  ports = λ side k t. absurd (false≢true t);
  made = λ k t. absurd (false≢true t);
  other_ports = λ side k f. refl;
  others_made = λ k f. refl;
  lines = λ k. refl;
  fans = λ k o. refl;
  feeds = λ k i. refl;
  found = λ j k i t R. absurd (false≢true t);
  others = λ j none. refl;
  known = λ h. h;
}

-- Blocks.

pub blocks_more : (g : Grove) (old mid new : Blocks) (ks : List ℕ) (k : ℕ) → PutsBlocks g old mid ks → is_among ks k ≡ false → PutsUnder mid new k (replicate (need_at g k).blocks silent_block)
    → PutsBlocks g old new (ks ++ k ∷ [])
blocks_more g old mid new ks k A fresh P = record {
  is = λ x t. ⊎_elim
      (λ (e : x ≡ k). subst (λ y. slice_get new y ≡ Some (replicate (need_at g y).blocks silent_block)) (sym e) P.is)
      (λ (s : IsTrue (is_among ks x)). P.others x (λ e. false≢true (sym fresh ∙ ap (is_among ks) (sym e) ∙ is_true (is_among ks x) s)) ∙ A.is x s) (last_or ks k x t);
  others = λ x f. let o = out_parts ks k x f in P.others x o.1 ∙ A.others x o.0;
}

pub blocks_none : (g : Grove) (old : Blocks) → PutsBlocks g old old []
blocks_none g old = record { is = λ k t. absurd (false≢true t); others = λ k f. refl }

-- Rooms.

pub next_room : (n : Need) (ns : List Need) (rooms : List BoxRoom) → AreRoomsFor (n ∷ ns) rooms → IsNextRoom n rooms
next_room n ns [] A = absurd A
next_room n ns (r ∷ rooms) A = A.0

pub rooms_left : (n : Need) (ns : List Need) (rooms : List BoxRoom) → AreRoomsFor (n ∷ ns) rooms → AreRoomsFor ns (drop 1 rooms)
rooms_left n ns [] A = absurd A
rooms_left n ns (r ∷ rooms) A = A.1

-- Keys that stand once.

pub among_middle : (xs : List ℕ) (k : ℕ) (behind : List ℕ) → is_among (xs ++ k ∷ behind) k ≡ true
among_middle [] k behind = ap (λ b. b || is_among behind k) (eq-eqb k k refl)
among_middle (x ∷ xs) k behind = ap (λ b. nat_eq k x || b) (among_middle xs k behind) ∙ or_right (nat_eq k x)

-- a key of such keys is none of those before it
pub new_last : (before : List ℕ) (k : ℕ) (behind : List ℕ) → AreNew (before ++ k ∷ behind) [] → is_among before k ≡ false
new_last [] k behind N = refl
new_last (y ∷ before) k behind N = by (nat_eq k y) refl (new_last before k behind N.1)
  where
    there : k ≡ y → is_among ((before ++ k ∷ behind) ++ []) y ≡ true
    there e = ap (λ zs. is_among zs y) (append-nil (before ++ k ∷ behind)) ∙ ap (is_among (before ++ k ∷ behind)) (sym e) ∙ among_middle before k behind

    by : (a : Bool) → nat_eq k y ≡ a → is_among before k ≡ false → (a || is_among before k) ≡ false
    by true e f = absurd (false≢true (sym N.0 ∙ there (eqb-true k y e)))
    by false e f = f

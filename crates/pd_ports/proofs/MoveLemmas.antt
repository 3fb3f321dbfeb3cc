-- The ports on a side of a box become others, and their wires go along.
use Rattle.std.proofs.Common.{◌≡◌, ◌≢◌, ◌⊎◌, ℕ, List, [], slice_get, Option, Some, None, refl, sym, ap, ◌∙◌, inl, inr, arith}
use Rattle.std.specs.Prelude.{option_map}
use Rattle.std.proofs.lemmas.Bool.{cases_eq}
use Rattle.std.proofs.lemmas.Option.{none-some, same_Some}
use Rattle.pd_wire.specs.Book.{Book, IsLinked, wire_at, fan_part, feed_part}
use Rattle.pd_grove.specs.declared.ports.Side.{Side}
use Rattle.pd_grove.specs.declared.ports.Side.TheVariants.{Inlets, Outlets}
use Rattle.pd_web.specs.declared.jacks.Jack.{Jack}
use Rattle.pd_web.specs.declared.sockets.Port.{Port}
use Rattle.pd_web.specs.declared.sockets.Sockets.{Sockets}
use Rattle.pd_web.specs.declared.sockets.Spot.{Spot}
use Rattle.pd_web.specs.Sockets.{AreTied, ports_at, end_under, end_at, jacks_of}
use Rattle.pd_web.specs.Spares.{AreFree}
use Rattle.pd_web.specs.Wiring.{source_in, sink_in}
use Rattle.pd_web.specs.declared.lines.Line.{Line}
use Rattle.pd_web.specs.Hops.{hop_by, fan_under, feeds_under}
use Rattle.pd_web.specs.Changes.{line_by}
use Rattle.pd_web.proofs.EndLemmas.{spot_same}
use Rattle.pd_web.proofs.ChangeLemmas.{line_in, line_lost}
use Rattle.pd_web.proofs.HopLemmas.{fan_listed, feed_listed}
use Rattle.pd_ports.specs.Ends.{end_in, IsAmong, Drops}
use Rattle.pd_ports.specs.Moves.{under, Goes, AreOnce, moved_ports, Respots, IsLeft, PutsSide, box_of, port_of, with_port}
use Rattle.pd_ports.proofs.EndLemmas.{live_by}
use Rattle.pd_ports.proofs.TakeLemmas.{moved_told, moved_went, moved_came}

inlets_apart : Inlets ≡ Outlets → ⊥
inlets_apart h = cc h

-- a web before and after the ports on a side of a box become others
pub record Scene : Type 0 where
  pub all : List Sockets
  pub all_after : List Sockets
  pub spots : List Spot
  pub spots_after : List Spot
  pub book : Book
  pub book_after : Book
  pub spare : List ℕ
  pub key : ℕ
  pub side : Side
  pub jacks : List Jack

abbrev pub olds : Scene → List Port
olds c = ports_at c.all c.side c.key

abbrev pub news : Scene → List Port
news c = moved_ports (olds c) c.jacks

pub record IsMoved (c : Scene) : Type 0 where
  pub linked : IsLinked c.book
  pub tied : AreTied c.all c.spots c.book
  pub free : AreFree c.all c.book c.spare
  pub once : AreOnce (jacks_of (olds c))
  pub puts : PutsSide c.all c.all_after c.key c.side (news c)
  pub spots : Respots c.spots c.spots_after (news c) c.side c.key
  pub drops : Drops c.book c.book_after (IsLeft (olds c) (news c))

-- the port is one on this side of this box
abbrev pub IsMine : Scene → Spot → Type 0
IsMine c s = (s.node ≡ c.key) × (s.side ≡ c.side)

abbrev pub spot_of : Scene → ℕ → Spot
spot_of c i = record { node = c.key; side = c.side; port = i }

pub cases_side : (a b : Side) → (a ≡ b) ⊎ (a ≢ b)
cases_side Inlets Inlets = inl refl
cases_side Inlets Outlets = inr (λ h. cc h)
cases_side Outlets Inlets = inr (λ h. cc h)
cases_side Outlets Outlets = inl refl

pub cases_mine : (c : Scene) (s : Spot) → IsMine c s ⊎ (s.node ≡ c.key → s.side ≢ c.side)
cases_mine c s = elim (cases_eq s.node c.key) [
  | inr a ↦ inr (λ h. absurd (a h))
  | inl a ↦ elim (cases_side s.side c.side) [
    | inl b ↦ inl (a, b)
    | inr b ↦ inr (λ h. b)
  ]
]

mine_same : (c : Scene) (s : Spot) → IsMine c s → s ≡ spot_of c s.port
mine_same c s m = spot_same s (spot_of c s.port) m.0 m.1 refl

-- the end of a port that changes, and of another one
end_mine : (c : Scene) (m : ℕ) → IsMoved c → end_under c.all_after c.side c.key m ≡ end_in (news c) m
end_mine c m v = ap (λ (ports : List Port). end_in ports m) v.puts.is

end_mine_at : (c : Scene) (s : Spot) (e : ℕ) → IsMoved c → IsMine c s → end_at c.all_after s ≡ Some e → end_in (news c) s.port ≡ Some e
end_mine_at c s e v m h = sym (end_mine c s.port v) ∙ ap (end_at c.all_after) (sym (mine_same c s m)) ∙ h

end_other : (c : Scene) (s : Side) (k i : ℕ) → IsMoved c → (k ≡ c.key → s ≢ c.side) → end_under c.all_after s k i ≡ end_under c.all s k i
end_other c s k i v ne = ap (λ (ports : List Port). end_in ports i) (v.puts.others s k ne)

-- two ports with one end are one port
same_spot : (c : Scene) (s t : Spot) (e : ℕ) → IsMoved c → end_at c.all s ≡ Some e → end_at c.all t ≡ Some e → s ≡ t
same_spot c s t e v p q = same_Some s t (sym (v.tied.placed s e p).told ∙ (v.tied.placed t e q).told)

other_apart : (c : Scene) (s : Spot) (i e : ℕ) → IsMoved c → (s.node ≡ c.key → s.side ≢ c.side) → end_at c.all s ≡ Some e → end_in (olds c) i ≡ Some e → ⊥
other_apart c s i e v ne p q = let same = same_spot c s (spot_of c i) e v p q in ne (ap (λ (x : Spot). x.node) same) (ap (λ (x : Spot). x.side) same)

-- the end of another port is none of the new ones
other_not_new : (c : Scene) (s : Spot) (e : ℕ) → IsMoved c → (s.node ≡ c.key → s.side ≢ c.side) → end_at c.all s ≡ Some e → IsAmong (news c) e → ⊥
other_not_new c s e v ne p is = let t = moved_told (olds c) c.jacks is.0 e is.1 in other_apart c s t.0 e v ne p t.2

-- no port has an end that is left
left_apart : (c : Scene) (s : Spot) (e : ℕ) → IsMoved c → end_at c.all_after s ≡ Some e → IsLeft (olds c) (news c) e → ⊥
left_apart c s e v h left = elim (cases_mine c s) [
  | inl m ↦ left.1 (s.port, end_mine_at c s e v m h)
  | inr ne ↦ other_apart c s left.0.0 e v ne (sym (end_other c s.side s.node s.port v ne) ∙ h) left.0.1
]

-- where the end of a port after it was before
pub end_before : (c : Scene) (s : Spot) (e : ℕ) → IsMoved c → end_at c.all_after s ≡ Some e → (t : Spot) × (end_at c.all t ≡ Some e) × (t.side ≡ s.side)
end_before c s e v h = elim (cases_mine c s) [
  | inl m ↦ let t = moved_told (olds c) c.jacks s.port e (end_mine_at c s e v m h) in (spot_of c t.0, t.2, sym m.1)
  | inr ne ↦ (s, sym (end_other c s.side s.node s.port v ne) ∙ h, refl)
]

-- what is known of the end of a port after
pub spot_mine : (c : Scene) (n m e : ℕ) → IsMoved c → Goes (jacks_of (olds c)) c.jacks n m → end_under c.all c.side c.key n ≡ Some e → slice_get c.spots_after e ≡ Some (spot_of c m)
spot_mine c n m e v g h = v.spots.told m e (moved_went (olds c) c.jacks n m v.once g ∙ h)

pub spot_other : (c : Scene) (s : Spot) (e : ℕ) → IsMoved c → (s.node ≡ c.key → s.side ≢ c.side) → end_at c.all s ≡ Some e → slice_get c.spots_after e ≡ Some s
spot_other c s e v ne h = v.spots.others e (other_not_new c s e v ne h) ∙ (v.tied.placed s e h).told

pub moved_tied : (c : Scene) → IsMoved c → AreTied c.all_after c.spots_after c.book_after
moved_tied c v = record {
  placed = λ s e h.
      let was = end_before c s e v h in
      record {
        live = live_by c.book c.book_after e (v.drops.stay e (left_apart c s e v h)) (v.tied.placed was.0 e was.1).live;
        told = elim (cases_mine c s) [
          | inl m ↦ v.spots.told s.port e (end_mine_at c s e v m h) ∙ ap (λ (x : Spot). Some x) (sym (mine_same c s m))
          | inr ne ↦ spot_other c s e v ne (sym (end_other c s.side s.node s.port v ne) ∙ h)
        ];
      };
  spotted = λ e h. let l = v.tied.spotted e (live_by c.book_after c.book e (sym (v.drops.no_more e h)) h) in let f = v.spots.len in omega (arith, l, f);
}

spare_apart : (c : Scene) (i e : ℕ) → IsMoved c → slice_get c.spare i ≡ Some e → IsLeft (olds c) (news c) e → ⊥
spare_apart c i e v h left = v.free.of_no_port i e (spot_of c left.0.0) h left.0.1

pub moved_free : (c : Scene) → IsMoved c → AreFree c.all_after c.book_after c.spare
moved_free c v = record {
  live = λ i e h. live_by c.book c.book_after e (v.drops.stay e (spare_apart c i e v h)) (v.free.live i e h);
  no_fan = λ i e h. ap fan_part (v.drops.stay e (spare_apart c i e v h)) ∙ v.free.no_fan i e h;
  no_feeds = λ i e h. ap feed_part (v.drops.stay e (spare_apart c i e v h)) ∙ v.free.no_feeds i e h;
  of_no_port = λ i e s h is. let was = end_before c s e v is in v.free.of_no_port i e was.0 h was.1;
  once = v.free.once;
}

-- The wires at ports.

under_kept : (side : Side) (b b' : Book) (Is : ℕ → Type 0) (o : Option ℕ) → Drops b b' Is → ((e : ℕ) → o ≡ Some e → Is e → ⊥) → under side b' o ≡ under side b o
under_kept Inlets b b' Is None d apart = refl
under_kept Inlets b b' Is (Some e) d apart = ap feed_part (d.stay e (apart e refl))
under_kept Outlets b b' Is None d apart = refl
under_kept Outlets b b' Is (Some e) d apart = ap fan_part (d.stay e (apart e refl))

under_none : (side : Side) (b : Book) (o : Option ℕ) → o ≡ None → under side b o ≡ []
under_none Inlets b o h = ap (feeds_under b) h
under_none Outlets b o h = ap (fan_under b) h

-- the wires at a port after, by the end that it has
pub under_after : (c : Scene) (s : Spot) → IsMoved c → under s.side c.book_after (end_at c.all_after s) ≡ under s.side c.book (end_at c.all_after s)
under_after c s v = under_kept s.side c.book c.book_after (IsLeft (olds c) (news c)) (end_at c.all_after s) v.drops (λ e h. left_apart c s e v h)

pub keys_went : (c : Scene) (n m : ℕ) → IsMoved c → Goes (jacks_of (olds c)) c.jacks n m
    → under c.side c.book_after (end_under c.all_after c.side c.key m) ≡ under c.side c.book (end_under c.all c.side c.key n)
keys_went c n m v g = under_after c (spot_of c m) v ∙ ap (under c.side c.book) (end_mine c m v ∙ moved_went (olds c) c.jacks n m v.once g)

pub keys_came : (c : Scene) (m : ℕ) → IsMoved c → ((n : ℕ) → Goes (jacks_of (olds c)) c.jacks n m → ⊥) → under c.side c.book_after (end_under c.all_after c.side c.key m) ≡ []
keys_came c m v never = under_none c.side c.book_after (end_under c.all_after c.side c.key m) (end_mine c m v ∙ moved_came (olds c) c.jacks m never)

pub keys_stay : (c : Scene) (s : Side) (k i : ℕ) → IsMoved c → (k ≡ c.key → s ≢ c.side) → under s c.book_after (end_under c.all_after s k i) ≡ under s c.book (end_under c.all s k i)
keys_stay c s k i v ne = under_after c (record { node = k; side = s; port = i }) v ∙ ap (under s c.book) (end_other c s k i v ne)

-- The wires themselves.

-- a wire stands at its port on this side
abbrev pub StandsIn : Scene → Side → ℕ → Line → Type 0
StandsIn c s k l = (i : ℕ) × (slice_get (under s c.book (end_under c.all s (box_of s l) (port_of s l))) i ≡ Some k)

-- each wire that stands at one of its ports stands at the other one too
abbrev pub AreThere : Scene → Type 0
AreThere c = (k : ℕ) (l : Line) (s t : Side) → line_in c.spots c.book k ≡ Some l → StandsIn c s k l → StandsIn c t k l

-- no wire is at a port that is gone
abbrev pub NoneIsGone : Scene → Type 0
NoneIsGone c = (n : ℕ) → ((m : ℕ) → Goes (jacks_of (olds c)) c.jacks n m → ⊥) → under c.side c.book (end_under c.all c.side c.key n) ≡ []

-- the end of a wire on a side
abbrev pub end_told : Side → ℕ × ℕ → ℕ
end_told Inlets p = p.1
end_told Outlets p = p.0

pub listed_end : (s : Side) (b : Book) (o : Option ℕ) (i k : ℕ) (p : ℕ × ℕ) → IsLinked b → slice_get (under s b o) i ≡ Some k → wire_at b k ≡ Some p → o ≡ Some (end_told s p)
listed_end Inlets b None i k p linked h w = absurd (none-some k h)
listed_end Inlets b (Some e) i k p linked h w = let f = feed_listed b e i k linked h in ap (λ (q : ℕ × ℕ). Some q.1) (same_Some (f.0, e) p (sym f.1 ∙ w))
listed_end Outlets b None i k p linked h w = absurd (none-some k h)
listed_end Outlets b (Some e) i k p linked h w = let f = fan_listed b e i k linked h in ap (λ (q : ℕ × ℕ). Some q.0) (same_Some (e, f.0) p (sym f.1 ∙ w))

-- the port at a side of a wire that stands there has that end
end_there : (c : Scene) (k : ℕ) (l : Line) (p : ℕ × ℕ) (s : Side) → IsMoved c → StandsIn c s k l → wire_at c.book k ≡ Some p → end_under c.all s (box_of s l) (port_of s l) ≡ Some (end_told s p)
end_there c k l p s v stands w = listed_end s c.book (end_under c.all s (box_of s l) (port_of s l)) stands.0 k p v.linked stands.1 w

-- a key with a line is a wire's
pub wire_of : (spots : List Spot) (b : Book) (k : ℕ) (l : Line) → line_in spots b k ≡ Some l → (p : ℕ × ℕ) × (wire_at b k ≡ Some p)
wire_of spots b k l h = by_wire (wire_at b k) refl
  where
    by_wire : (o : Option (ℕ × ℕ)) → wire_at b k ≡ o → (p : ℕ × ℕ) × (wire_at b k ≡ Some p)
    by_wire None q = absurd (none-some l (sym (line_lost spots b k q) ∙ h))
    by_wire (Some p) q = (p, q)

abbrev pub line_between : Spot → Spot → Line
line_between s t = record { source = s.node; outlet = s.port; sink = t.node; inlet = t.port }

-- the line of a wire, where it is known which ports its ends are
line_known : (spots : List Spot) (b : Book) (k : ℕ) (p : ℕ × ℕ) (s t : Spot) → wire_at b k ≡ Some p → slice_get spots p.0 ≡ Some s → slice_get spots p.1 ≡ Some t → line_in spots b k ≡ Some (line_between s t)
line_known spots b k p s t w from to =
    ap (λ (o : Option (ℕ × ℕ)). option_map (λ _. line_by (hop_by k (slice_get spots (source_in o))) (hop_by k (slice_get spots (sink_in o)))) o) w
    ∙ ap (λ x. Some (line_by (hop_by k x) (hop_by k (slice_get spots p.1)))) from
    ∙ ap (λ x. Some (line_by (hop_by k (Some s)) (hop_by k x))) to

-- a wire whose two ports are known after
line_after : (c : Scene) (k : ℕ) (p : ℕ × ℕ) (s t : Spot) → IsMoved c → wire_at c.book k ≡ Some p → slice_get c.spots_after p.0 ≡ Some s → slice_get c.spots_after p.1 ≡ Some t
    → line_in c.spots_after c.book_after k ≡ Some (line_between s t)
line_after c k p s t v w from to = line_known c.spots_after c.book_after k p s t (v.drops.wires k ∙ w) from to

abbrev pub from_of : Line → Spot
from_of l = record { node = l.source; side = Outlets; port = l.outlet }

abbrev pub to_of : Line → Spot
to_of l = record { node = l.sink; side = Inlets; port = l.inlet }

pub lines_stay : (c : Scene) (k : ℕ) (l : Line) (t : Side) → IsMoved c → AreThere c → line_in c.spots c.book k ≡ Some l → StandsIn c t k l → box_of c.side l ≢ c.key → line_in c.spots_after c.book_after k ≡ Some l
lines_stay c k l t v there h stands ne =
    let w = wire_of c.spots c.book k l h in
    line_after c k w.0 (from_of l) (to_of l) v w.1
    (spot_other c (from_of l) w.0.0 v (λ a b. ne (ap (λ s. box_of s l) (sym b) ∙ a)) (end_there c k l w.0 Outlets v (there k l t Outlets h stands) w.1))
    (spot_other c (to_of l) w.0.1 v (λ a b. ne (ap (λ s. box_of s l) (sym b) ∙ a)) (end_there c k l w.0 Inlets v (there k l t Inlets h stands) w.1))

pub no_lines : (c : Scene) (k : ℕ) → IsMoved c → line_in c.spots c.book k ≡ None → line_in c.spots_after c.book_after k ≡ None
no_lines c k v h = by_wire (wire_at c.book k) refl
  where
    by_wire : (o : Option (ℕ × ℕ)) → wire_at c.book k ≡ o → line_in c.spots_after c.book_after k ≡ None
    by_wire None q = line_lost c.spots_after c.book_after k (v.drops.wires k ∙ q)
    by_wire (Some p) q = absurd (some_line p q)
      where
        some_line : (p : ℕ × ℕ) → wire_at c.book k ≡ Some p → ⊥
        some_line p q =
            none-some _ (sym h ∙ ap (λ (o : Option (ℕ × ℕ)). option_map (λ _. line_by (hop_by k (slice_get c.spots (source_in o))) (hop_by k (slice_get c.spots (sink_in o)))) o) q)

pub lines_went : (c : Scene) (k m : ℕ) (l : Line) (t : Side) → IsMoved c → AreThere c → line_in c.spots c.book k ≡ Some l → StandsIn c t k l → box_of c.side l ≡ c.key → Goes (jacks_of (olds c)) c.jacks (port_of c.side l) m
    → line_in c.spots_after c.book_after k ≡ Some (with_port c.side m l)
lines_went c k m l t v there h stands at_box g = by_side c.side refl
  where
    mine : (p : ℕ × ℕ) → wire_at c.book k ≡ Some p → slice_get c.spots_after (end_told c.side p) ≡ Some (spot_of c m)
    mine p w =
        spot_mine c (port_of c.side l) m (end_told c.side p) v g (ap (λ (j : ℕ). end_under c.all c.side j (port_of c.side l)) (sym at_box) ∙ end_there c k l p c.side v (there k l t c.side h stands) w)

    by_side : (s : Side) → c.side ≡ s → line_in c.spots_after c.book_after k ≡ Some (with_port c.side m l)
    by_side Outlets e =
        let w = wire_of c.spots c.book k l h in
        let from = ap (λ (s : Side). slice_get c.spots_after (end_told s w.0)) (sym e) ∙ mine w.0 w.1 in
        let to = spot_other c (to_of l) w.0.1 v (λ a b. inlets_apart (b ∙ e)) (end_there c k l w.0 Inlets v (there k l t Inlets h stands) w.1) in
        line_after c k w.0 (spot_of c m) (to_of l) v w.1 from to
        ∙ ap (λ (n : ℕ). Some (record { source = n; outlet = m; sink = l.sink; inlet = l.inlet })) (sym at_box ∙ ap (λ (s : Side). box_of s l) e)
        ∙ ap (λ (s : Side). Some (with_port s m l)) (sym e)
    by_side Inlets e =
        let w = wire_of c.spots c.book k l h in
        let to = ap (λ (s : Side). slice_get c.spots_after (end_told s w.0)) (sym e) ∙ mine w.0 w.1 in
        let from = spot_other c (from_of l) w.0.0 v (λ a b. inlets_apart (sym (b ∙ e))) (end_there c k l w.0 Outlets v (there k l t Outlets h stands) w.1) in
        line_after c k w.0 (from_of l) (spot_of c m) v w.1 from to
        ∙ ap (λ (n : ℕ). Some (record { source = l.source; outlet = l.outlet; sink = n; inlet = m })) (sym at_box ∙ ap (λ (s : Side). box_of s l) e)
        ∙ ap (λ (s : Side). Some (with_port s m l)) (sym e)

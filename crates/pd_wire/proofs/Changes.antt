-- What each step on the slab of nodes leaves of the book that contracts see.
use Rattle.std.proofs.Common.{◌≡◌, ◌≢◌, ℕ, ◌+◌, ◌<◌, ◌≤◌, Bool, true, false, not, List, [], length, get_or, Option, Some, None, refl, sym, ap, ◌∙◌, subst, inl, inr, arith}
use Rattle.std.proofs.lemmas.Bool.{cases_eq}
use Rattle.std.specs.List.{insert, remove}
use Rattle.slab.specs.Slab.{Slab, get, slab_len, Updates}
use Rattle.pd_wire.specs.Links.{fan_of_slot, feed_of_slot, is_end_slot, is_wire_slot, fan_at, feed_at, is_end, is_wire, IsBook, list_of}
use Rattle.pd_wire.specs.Book.{IsEnd, IsWire, end_at, fan_of, feeds_of, Adds, Cuts, MakesEnd, DropsEnd}
use Rattle.pd_wire.specs.Stored.{book_of, IsSoundBook, Inserts, Removes, lone}
use Rattle.pd_wire.specs.declared.links.Node.{Node}
use Rattle.pd_wire.proofs.Books.{true_false}
use Rattle.pd_wire.proofs.Nodes.{slots_kept}
use Rattle.pd_wire.proofs.Sides.{side_insert, side_remove, side_make, side_drop}
use mathlib.Core.Path.{fun_ext}
use Rattle.pd_wire.proofs.Seen.{seen, fan_is, feeds_is, end_is, is_end_from, wire_is, wire_at_is, fans_kept, feeds_kept, end_kept, wire_kept, no_end_seen, no_wire_seen, end_seen, at_true, end_no_wire}

-- an insertion
pub sound_insert : (s t : Slab Node) (m n n' key source p b sink q d : ℕ) → IsSoundBook s m n → n' + 1 ≡ n → Inserts s t key source b sink d → is_end s source ≡ true → is_end s sink ≡ true
    → p ≤ length (list_of (fan_at s) source) → b ≡ get_or (list_of (fan_at s) source) p source
    → q ≤ length (list_of (feed_at s) sink) → d ≡ get_or (list_of (feed_at s) sink) q sink
    → IsSoundBook t m n' × Adds (book_of s m n) (book_of t m n') key source p sink q
sound_insert s t m n n' key source p b sink q d W less i hs hk lp isb lq isd =
    let S = W.links in
    let no_end : is_end s key ≡ false = ap is_end_slot i.vacant in
    let no_wire : is_wire s key ≡ false = ap is_wire_slot i.vacant in
    let E : (ℕ → Bool) → Type 0 = λ h. IsBook h (is_wire t) (fan_at t) (list_of (fan_at t)) in
    let G : (ℕ → Bool) → Type 0 = λ h. IsBook h (is_wire t) (feed_at t) (list_of (feed_at t)) in
    let heads : is_end s ≡ is_end t = fun_ext (λ j. sym (i.ends j)) in
    let fans = side_insert (is_end s) (is_wire s) (is_wire t) (fan_at s) (fan_at t) source p key b S.fans hs no_end no_wire i.wire i.wires lp isb i.fans in
    let feeds = side_insert (is_end s) (is_wire s) (is_wire t) (feed_at s) (feed_at t) sink q key d S.feeds hk no_end no_wire i.wire i.wires lq isd i.feeds in (
      record { links = record { fans = subst E heads fans.book; feeds = subst G heads feeds.book }; room = omega (arith, W.room, i.len, i.capacity, less) },
      record {
        was_vacant = (no_end_seen s key no_end, no_wire_seen s key no_wire);
        wire = wire_at_is t key i.wire ∙ ap (λ x. Some (x, (feed_at t key).owner)) i.fans.owner_at ∙ ap (λ y. Some (source, y)) i.feeds.owner_at;
        other_wires = λ k ne. wire_kept s t k (i.wires k ne) (λ _. i.fans.owner k ne) (λ _. i.feeds.owner k ne);
        fan = fan_is t source (i.ends source ∙ hs) ∙ fans.at ∙ ap (λ xs. insert xs p key) (sym (fan_is s source hs));
        other_fans = λ e ne. fans_kept s t e (i.ends e) (λ he. fans.others e he ne);
        feeds = feeds_is t sink (i.ends sink ∙ hk) ∙ feeds.at ∙ ap (λ xs. insert xs q key) (sym (feeds_is s sink hk));
        other_feeds = λ e ne. feeds_kept s t e (i.ends e) (λ he. feeds.others e he ne);
        ends = λ e h. is_end_from t e (i.ends e ∙ end_is s e h);
        no_more_ends = λ e h. is_end_from s e (sym (i.ends e) ∙ end_is t e h);
        spare_ends = refl;
        spare_wires = less;
      },
    )

-- a removal
pub sound_remove : (s t : Slab Node) (m n n' key : ℕ) → IsSoundBook s m n → n' ≡ n + 1 → is_wire s key ≡ true → Removes s t key
    → IsSoundBook t m n' × ((p : ℕ) × (q : ℕ) × Cuts (book_of s m n) (book_of t m n') key (fan_at s key).owner p (feed_at s key).owner q)
sound_remove s t m n n' key W more w r =
    let S = W.links in
    let source = (fan_at s key).owner in
    let sink = (feed_at s key).owner in
    let hs = S.fans.owners key w in
    let hk = S.feeds.owners key w in
    let p = S.fans.placed key w in
    let q = S.feeds.placed key w in
    let E : (ℕ → Bool) → Type 0 = λ h. IsBook h (is_wire t) (fan_at t) (list_of (fan_at t)) in
    let G : (ℕ → Bool) → Type 0 = λ h. IsBook h (is_wire t) (feed_at t) (list_of (feed_at t)) in
    let heads : is_end s ≡ is_end t = fun_ext (λ j. sym (r.ends j)) in
    let fans = side_remove (is_end s) (is_wire s) (is_wire t) (fan_at s) (fan_at t) p.0 key S.fans w r.wire r.wires p.1 p.2 r.fans in
    let feeds = side_remove (is_end s) (is_wire s) (is_wire t) (feed_at s) (feed_at t) q.0 key S.feeds w r.wire r.wires q.1 q.2 r.feeds in
    let P : List ℕ → Type 0 = λ xs. (p.0 < length xs) × (get_or xs p.0 source ≡ key) in
    let Q : List ℕ → Type 0 = λ xs. (q.0 < length xs) × (get_or xs q.0 sink ≡ key) in (
      record { links = record { fans = subst E heads fans.book; feeds = subst G heads feeds.book }; room = omega (arith, W.room, r.len, r.capacity, more) },
      (
        p.0,
        q.0,
        record {
          was = wire_at_is s key w;
          wire = no_wire_seen t key r.wire;
          other_wires = λ k ne. wire_kept s t k (r.wires k ne) (λ _. r.fans.owner k ne) (λ _. r.feeds.owner k ne);
          stood = subst P (sym (fan_is s source hs)) (p.1, p.2);
          fan = fan_is t source (r.ends source ∙ hs) ∙ fans.at ∙ ap (λ xs. remove xs p.0) (sym (fan_is s source hs));
          other_fans = λ e ne. fans_kept s t e (r.ends e) (λ he. fans.others e he ne);
          stood_fed = subst Q (sym (feeds_is s sink hk)) (q.1, q.2);
          feeds = feeds_is t sink (r.ends sink ∙ hk) ∙ feeds.at ∙ ap (λ xs. remove xs q.0) (sym (feeds_is s sink hk));
          other_feeds = λ e ne. feeds_kept s t e (r.ends e) (λ he. feeds.others e he ne);
          ends = λ e h. is_end_from t e (r.ends e ∙ end_is s e h);
          no_more_ends = λ e h. is_end_from s e (sym (r.ends e) ∙ end_is t e h);
          spare_ends = refl;
          spare_wires = more;
        },
      ),
    )

empty_end : (o : Option (List ℕ × List ℕ)) (xs ys : List ℕ) → o ≡ Some (xs, ys) → xs ≡ [] → ys ≡ [] → o ≡ Some ([], [])
empty_end o xs ys q f g = q ∙ ap (λ zs. Some (zs, ys)) f ∙ ap (λ zs. Some ([], zs)) g

-- a new end
pub sound_make : (s t : Slab Node) (m m' n key : ℕ) (node : Node) → IsSoundBook s m n → m' + 1 ≡ m → get s key ≡ None → Updates s t key (Some node) → node.is_end ≡ true → node.fan ≡ lone key → node.feed ≡ lone key
    → slab_len t ≡ slab_len s + 1 → t.capacity ≡ s.capacity
    → IsSoundBook t m' n × MakesEnd (book_of s m n) (book_of t m' n) key
sound_make s t m m' n key node W less v u ie nf nd len cap =
    let S = W.links in
    let no_end : is_end s key ≡ false = ap is_end_slot v in
    let no_wire : is_wire s key ≡ false = ap is_wire_slot v in
    let kept = slots_kept s t key (Some node) u in
    let ht : is_end t key ≡ true = ap is_end_slot u.changed ∙ ie in
    let wt : is_wire t key ≡ false = ap is_wire_slot u.changed ∙ ap not ie in
    let wires_at : (j : ℕ) → is_wire t j ≡ is_wire s j = λ j. elim (cases_eq j key) as (λ _. is_wire t j ≡ is_wire s j) [
      | inl same ↦ ap (is_wire t) same ∙ wt ∙ sym no_wire ∙ ap (is_wire s) (sym same)
      | inr d ↦ (kept j d).3
    ] in
    let members : is_wire s ≡ is_wire t = fun_ext (λ j. sym (wires_at j)) in
    let E : (ℕ → Bool) → Type 0 = λ m. IsBook (is_end t) m (fan_at t) (list_of (fan_at t)) in
    let G : (ℕ → Bool) → Type 0 = λ m. IsBook (is_end t) m (feed_at t) (list_of (feed_at t)) in
    let fans = side_make (is_end s) (is_end t) (is_wire s) (fan_at s) (fan_at t) key S.fans no_end no_wire (λ j d. (kept j d).2) (ap fan_of_slot u.changed ∙ nf) (λ j d. (kept j d).0) ht in
    let feeds = side_make (is_end s) (is_end t) (is_wire s) (feed_at s) (feed_at t) key S.feeds no_end no_wire (λ j d. (kept j d).2) (ap feed_of_slot u.changed ∙ nd) (λ j d. (kept j d).1) ht in
    let lone_end : end_at (seen t) key ≡ Some (list_of (fan_at t) key, list_of (feed_at t) key) = end_seen t key ∙ at_true _ _ _ ht in
    let apart : (j : ℕ) → is_wire s j ≡ true → j ≢ key = λ j w q. true_false (is_wire s key) (ap (is_wire s) (sym q) ∙ w) no_wire in (
      record { links = record { fans = subst E members fans.book; feeds = subst G members feeds.book }; room = omega (arith, W.room, len, cap, less) },
      record {
        was_vacant = (no_end_seen s key no_end, no_wire_seen s key no_wire);
        end = empty_end _ _ _ lone_end fans.at feeds.at;
        other_ends = λ e d. end_kept s t e (kept e d).2 (λ he. fans.others e he d) (λ he. feeds.others e he d);
        wires = λ k. wire_kept s t k (wires_at k) (λ w. ap (λ x. x.owner) (kept k (apart k w)).0) (λ w. ap (λ x. x.owner) (kept k (apart k w)).1);
        spare_ends = less;
        spare_wires = refl;
      },
    )

-- an end is dropped
pub sound_drop : (s t : Slab Node) (m m' n key : ℕ) → IsSoundBook s m n → m' ≡ m + 1 → is_end s key ≡ true → list_of (fan_at s) key ≡ [] → list_of (feed_at s) key ≡ [] → Updates s t key None
    → slab_len t + 1 ≡ slab_len s → t.capacity ≡ s.capacity
    → IsSoundBook t m' n × DropsEnd (book_of s m n) (book_of t m' n) key
sound_drop s t m m' n key W more he nf nd u len cap =
    let S = W.links in
    let kept = slots_kept s t key None u in
    let no_wire : is_wire s key ≡ false = end_no_wire s key he in
    let wires_at : (j : ℕ) → is_wire t j ≡ is_wire s j = λ j. elim (cases_eq j key) as (λ _. is_wire t j ≡ is_wire s j) [
      | inl same ↦ ap (is_wire t) same ∙ ap is_wire_slot u.changed ∙ sym no_wire ∙ ap (is_wire s) (sym same)
      | inr d ↦ (kept j d).3
    ] in
    let members : is_wire s ≡ is_wire t = fun_ext (λ j. sym (wires_at j)) in
    let E : (ℕ → Bool) → Type 0 = λ m. IsBook (is_end t) m (fan_at t) (list_of (fan_at t)) in
    let G : (ℕ → Bool) → Type 0 = λ m. IsBook (is_end t) m (feed_at t) (list_of (feed_at t)) in
    let fans = side_drop (is_end s) (is_end t) (is_wire s) (fan_at s) (fan_at t) key S.fans he nf (ap is_end_slot u.changed) (λ j d. (kept j d).2) (λ j d. (kept j d).0) in
    let feeds = side_drop (is_end s) (is_end t) (is_wire s) (feed_at s) (feed_at t) key S.feeds he nd (ap is_end_slot u.changed) (λ j d. (kept j d).2) (λ j d. (kept j d).1) in
    let apart : (j : ℕ) → is_wire s j ≡ true → j ≢ key = λ j w q. true_false (is_wire s key) (ap (is_wire s) (sym q) ∙ w) no_wire in (
      record { links = record { fans = subst E members fans.book; feeds = subst G members feeds.book }; room = omega (arith, W.room, len, cap, more) },
      record {
        end = no_end_seen t key (ap is_end_slot u.changed);
        other_ends = λ e d. end_kept s t e (kept e d).2 (λ he. fans.others e he d) (λ he. feeds.others e he d);
        wires = λ k. wire_kept s t k (wires_at k) (λ w. ap (λ x. x.owner) (kept k (apart k w)).0) (λ w. ap (λ x. x.owner) (kept k (apart k w)).1);
        spare_ends = more;
        spare_wires = refl;
      },
    )

-- the same steps, by what contracts see before
pub insert_from : (s t : Slab Node) (m n n' key source p b sink q d : ℕ) → IsSoundBook s m n → n' + 1 ≡ n → Inserts s t key source b sink d
    → b ≡ get_or (list_of (fan_at s) source) p source → d ≡ get_or (list_of (feed_at s) sink) q sink
    → IsEnd (seen s) source → p ≤ length (fan_of (seen s) source) → IsEnd (seen s) sink → q ≤ length (feeds_of (seen s) sink)
    → IsSoundBook t m n' × Adds (book_of s m n) (book_of t m n') key source p sink q
insert_from s t m n n' key source p b sink q d W less i isb isd hs lp hk lq =
    let fan : length (fan_of (seen s) source) ≡ length (list_of (fan_at s) source) = ap length (fan_is s source (end_is s source hs)) in
    let feed : length (feeds_of (seen s) sink) ≡ length (list_of (feed_at s) sink) = ap length (feeds_is s sink (end_is s sink hk)) in
    sound_insert s t m n n' key source p b sink q d W less i (end_is s source hs) (end_is s sink hk) (omega arith) isb (omega arith) isd

pub drop_from : (s t : Slab Node) (m m' n key : ℕ) → IsSoundBook s m n → m' ≡ m + 1 → IsEnd (seen s) key → fan_of (seen s) key ≡ [] → feeds_of (seen s) key ≡ [] → Updates s t key None
    → slab_len t + 1 ≡ slab_len s → t.capacity ≡ s.capacity
    → IsSoundBook t m' n × DropsEnd (book_of s m n) (book_of t m' n) key
drop_from s t m m' n key W more h f g u len cap =
    let he = end_is s key h in
    sound_drop s t m m' n key W more he (sym (fan_is s key he) ∙ f) (sym (feeds_is s key he) ∙ g) u len cap

pub cut_from : (s t : Slab Node) (m n n' key : ℕ) → IsSoundBook s m n → n' ≡ n + 1 → Removes s t key → IsWire (seen s) key
    → IsSoundBook t m n' × ((source p sink q : ℕ) × Cuts (book_of s m n) (book_of t m n') key source p sink q)
cut_from s t m n n' key W more r w =
    let c = sound_remove s t m n n' key W more (wire_is s key w) r in
    (c.0, ((fan_at s key).owner, c.1.0, (feed_at s key).owner, c.1.1, c.1.2))

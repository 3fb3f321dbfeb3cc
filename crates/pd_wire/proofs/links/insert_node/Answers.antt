use Rattle.std.proofs.Common.{◌≡◌, ◌≢◌, ℕ, ◌∙◌, ap, sym, refl, subst, inl, inr}
use Rattle.std.proofs.lemmas.Bool.{cases_eq}
use Rattle.pd_wire.specs.Links.{is_end_slot, is_wire_slot, fan_at, feed_at, is_end, Attaches}
use Rattle.pd_wire.proofs.Nodes.{key_apart, slots_kept, attach_moved}
use Rattle.pd_wire.proofs.links.insert_node.Goals as goal

pub returns : goal.returns
returns c =
    let s₀ = c.args.nodes.now in
    let s₁ = c.insert_reserved-key.new.self in
    let s₂ = c.attach.new.nodes in
    let s₃ = c.attach-2.new.nodes in
    let k = c.insert_reserved-key.result in
    let n = c.insert_reserved-key.ensures in
    let kept = slots_kept s₀ s₁ k _ n.updates in
    let b = c.args.next_fan in
    let d = c.args.next_feed in
    let bk : b ≢ k = key_apart s₀ b k c.requires.next_fan n.was_vacant in
    let dk : d ≢ k = key_apart s₀ d k c.requires.next_feed n.was_vacant in
    let A : ℕ → Type 0 = λ a. Attaches (fan_at s₀) (fan_at s₃) c.args.source k a b in
    let B : ℕ → Type 0 = λ a. Attaches (feed_at s₀) (feed_at s₃) c.args.sink k a d in
    record {
      vacant = n.was_vacant;
      ends = λ j. c.attach-2.ensures.keys.ends j ∙ c.attach.ensures.keys.ends j ∙ elim (cases_eq j k) as (λ _. is_end s₁ j ≡ is_end s₀ j) [
        | inl same ↦ ap (is_end s₁) same ∙ ap is_end_slot n.updates.changed ∙ sym (ap is_end_slot n.was_vacant) ∙ ap (is_end s₀) (sym same)
        | inr differs ↦ (kept j differs).2
      ];
      wire = c.attach-2.ensures.keys.wires k ∙ c.attach.ensures.keys.wires k ∙ ap is_wire_slot n.updates.changed;
      wires = λ j differs. c.attach-2.ensures.keys.wires j ∙ c.attach.ensures.keys.wires j ∙ (kept j differs).3;
      fans = subst A (ap (λ l. l.before) (kept b bk).0) (attach_moved (fan_at s₀) (fan_at s₁) (fan_at s₂) (fan_at s₃) c.args.source k _ b (λ j q. (kept j q).0) c.attach-2.ensures.others (key_apart s₀ c.args.source k c.requires.source n.was_vacant) c.attach.ensures.attaches);
      feeds = subst B (ap (λ l. l.before) (c.attach.ensures.others d ∙ (kept d dk).1)) (attach_moved (feed_at s₀) (feed_at s₂) (feed_at s₃) (feed_at s₃) c.args.sink k _ d (λ j q. c.attach.ensures.others j ∙ (kept j q).1) (λ j. refl) (key_apart s₀ c.args.sink k c.requires.sink n.was_vacant) c.attach-2.ensures.attaches);
      len = c.attach-2.ensures.keys.len ∙ c.attach.ensures.keys.len ∙ n.len;
      capacity = c.attach-2.ensures.keys.capacity ∙ c.attach.ensures.keys.capacity ∙ n.capacity;
    }

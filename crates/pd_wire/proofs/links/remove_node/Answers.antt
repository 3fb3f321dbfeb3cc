use Rattle.std.proofs.Common.{◌≡◌, ℕ, ◌∙◌, ap, sym, refl, subst, inl, inr, arith}
use Rattle.std.proofs.lemmas.Bool.{cases_eq}
use Rattle.slab.specs.Slab.{slab_len, ContainsKey}
use Rattle.pd_wire.specs.Links.{is_end_slot, is_wire_slot, fan_at, feed_at, is_end, is_wire, list_of, Detaches}
use Rattle.pd_wire.specs.declared.links.Link.{Link}
use Rattle.pd_wire.proofs.Nodes.{key_of_either, lives_moved, before_lives, after_lives, owner_apart, before_apart, after_apart, slots_kept, detach_moved, wire_is_no_end}
use Rattle.pd_wire.proofs.links.remove_node.Goals as goal

pub detach-requires-clause-before : goal.detach-requires-clause-before
detach-requires-clause-before c =
    let s = c.args.nodes.now in
    key_of_either s _ (before_lives (is_end s) (is_wire s) (fan_at s) (list_of (fan_at s)) c.args.key c.requires.sound.fans c.requires.wire)

pub detach-requires-clause-after : goal.detach-requires-clause-after
detach-requires-clause-after c =
    let s = c.args.nodes.now in
    key_of_either s _ (after_lives (is_end s) (is_wire s) (fan_at s) (list_of (fan_at s)) c.args.key c.requires.sound.fans c.requires.wire)

pub detach-requires-2-clause-before : goal.detach-requires-2-clause-before
detach-requires-2-clause-before c =
    let s = c.args.nodes.now in
    let t = c.detach.new.nodes in
    let P : ℕ → Type 0 = λ x. ContainsKey t x in
    subst P (sym (ap (λ l. l.before) (c.detach.ensures.others c.args.key))) (lives_moved s t _ c.detach.ensures.keys (before_lives (is_end s) (is_wire s) (feed_at s) (list_of (feed_at s)) c.args.key c.requires.sound.feeds c.requires.wire))

pub detach-requires-2-clause-after : goal.detach-requires-2-clause-after
detach-requires-2-clause-after c =
    let s = c.args.nodes.now in
    let t = c.detach.new.nodes in
    let P : ℕ → Type 0 = λ x. ContainsKey t x in
    subst P (sym (ap (λ l. l.after) (c.detach.ensures.others c.args.key))) (lives_moved s t _ c.detach.ensures.keys (after_lives (is_end s) (is_wire s) (feed_at s) (list_of (feed_at s)) c.args.key c.requires.sound.feeds c.requires.wire))

pub returns : goal.returns
returns c =
    let s₀ = c.args.nodes.now in
    let s₁ = c.detach.new.nodes in
    let s₂ = c.detach-2.new.nodes in
    let s₃ = c.remove.new.self in
    let k = c.args.key in
    let kept = slots_kept s₂ s₃ k _ c.remove.ensures.updates in
    let F = c.requires.sound.fans in
    let G = c.requires.sound.feeds in
    let w = c.requires.wire in
    let D : Link → Type 0 = λ l. Detaches (feed_at s₁) (feed_at s₂) l.owner k l.before l.after in
    let len : slab_len s₂ ≡ slab_len s₀ = c.detach-2.ensures.keys.len ∙ c.detach.ensures.keys.len in
    let cap : s₂.capacity ≡ s₀.capacity = c.detach-2.ensures.keys.capacity ∙ c.detach.ensures.keys.capacity in
    record {
      ends = λ j. elim (cases_eq j k) as (λ _. is_end s₃ j ≡ is_end s₀ j) [
        | inl same ↦ ap (is_end s₃) same ∙ ap is_end_slot c.remove.ensures.updates.changed ∙ sym (wire_is_no_end s₀ k w) ∙ ap (is_end s₀) (sym same)
        | inr differs ↦ (kept j differs).2 ∙ c.detach-2.ensures.keys.ends j ∙ c.detach.ensures.keys.ends j
      ];
      wire = ap is_wire_slot c.remove.ensures.updates.changed;
      wires = λ j differs. (kept j differs).3 ∙ c.detach-2.ensures.keys.wires j ∙ c.detach.ensures.keys.wires j;
      fans =
          detach_moved (fan_at s₀) (fan_at s₀) (fan_at s₁) (fan_at s₃) _ k _ _ (λ j. refl) (λ j q. (kept j q).0 ∙ c.detach-2.ensures.others j)
          (owner_apart (is_end s₀) (is_wire s₀) (fan_at s₀) _ k F w) (before_apart (is_end s₀) (is_wire s₀) (fan_at s₀) _ k F w) (after_apart (is_end s₀) (is_wire s₀) (fan_at s₀) _ k F w) c.detach.ensures.detaches;
      feeds =
          detach_moved (feed_at s₀) (feed_at s₁) (feed_at s₂) (feed_at s₃) _ k _ _ c.detach.ensures.others (λ j q. (kept j q).1)
          (owner_apart (is_end s₀) (is_wire s₀) (feed_at s₀) _ k G w) (before_apart (is_end s₀) (is_wire s₀) (feed_at s₀) _ k G w) (after_apart (is_end s₀) (is_wire s₀) (feed_at s₀) _ k G w)
          (subst D (c.detach.ensures.others k) c.detach-2.ensures.detaches);
      len = c.remove.ensures.len ∙ len;
      room = omega (arith, c.remove.ensures.room, c.remove.ensures.len, c.remove.ensures.capacity);
      capacity = c.remove.ensures.capacity ∙ cap;
    }

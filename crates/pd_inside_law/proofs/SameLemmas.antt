-- Canvases of two patches that have the wires of one canvas of a tree: those inside abstractions, and with them all.
use Rattle.std.proofs.Common.{◌≡◌, ℕ, ◌==◌, ◌&&◌, true, false, List, map, slice_get, Some, None, refl, sym, ap, ◌∙◌, arith}
use Rattle.std.specs.List.{AllByRecursion}
use Rattle.std.proofs.lemmas.Bool.Decides.{nat_tests}
use Rattle.std.proofs.lemmas.Option.{none-some, same_Some}
use Rattle.pd_canvas.specs.declared.wires.Wire.{Wire}
use Rattle.pd_canvas.specs.Wiring.{fan_out}
use Rattle.pd_order.proofs.Basics.{by_test}
use Rattle.pd_tree.specs.Ports.{Sockets, sockets_in, fits, trimmed_sheet}
use Rattle.pd_tree.specs.Trees.{Tree}
use Rattle.pd_grove.specs.OwnPaths.{sub_reached}
use Rattle.pd_grove.specs.Telling.{reached}
use Rattle.pd_web.specs.declared.web.Web.{Web}
use Rattle.pd_web.specs.Canvases.{keys_at, fan_into}
use Rattle.pd_web.specs.Hops.{fan_hops, feed_hops}
use Rattle.pd_present.specs.Presents.{wires_among}
use Rattle.pd_patch.specs.declared.patch.Patch.{Patch}
use Rattle.pd_reload_law.specs.Wires.{AreNumbered, JoinsAmong, StandOnce}
use Rattle.pd_reload_law.proofs.FanLemmas.{saved_sorted, saved_fan, saved_none}
use Rattle.pd_reload_law.proofs.LaidLemmas.{back, along_back, backs, passes, fitting_joins}
use Rattle.pd_reload_law.proofs.SortedLemmas.{from, all_on, fan_none, sorted_same}
use Rattle.pd_saved_law.specs.Fitting.{HaveSameWires}
use Rattle.pd_saved_law.proofs.EditLemmas.{sub_leads}
use Rattle.pd_saved_law.proofs.WireLemmas.{reopened}
use Rattle.pd_alike_law.specs.Alike.{HasOpened}
use Rattle.pd_alike_law.specs.Feeds.{feed_wires, HaveSameFeeds}
use Rattle.pd_alike_law.proofs.FeedLemmas.{told_feeds, feeds_alike}
use Rattle.pd_alike_law.proofs.MatchLemmas.{by_option}
use Rattle.pd_alike_law.proofs.OrderLemmas.{orders_alike, opened_orders}
use Rattle.pd_inside_law.specs.Inside.{HasWiresOf, IsWiredInside, HoldsWires, IsSameCanvas}
use Rattle.pd_inside_law.proofs.WayLemmas.{InsideBoth, inside_both}

-- ---- the wires that are saved of a canvas that has those of a tree

module _ (w : Web) (N K : List ℕ) (u : Tree) (numbered : AreNumbered N K) (h : HasWiresOf w K u) where
  abbrev laid : List Wire
  laid = (trimmed_sheet u.boxes u.sheet).wires

  laid_joins : AllByRecursion (JoinsAmong K) laid
  laid_joins =
      all_on (λ v. fits (sockets_in u.boxes) v ≡ true) (JoinsAmong K) laid (λ v e. fitting_joins w K v (ap (λ (x : List Sockets). fits x v) h.ports ∙ e))
      (passes (fits (sockets_in u.boxes)) u.sheet.wires)

  -- none comes from a box that isn't there
  no_source : (s o : ℕ) (v : Wire) → slice_get K s ≡ None → JoinsAmong K v → from s o v ≡ false
  no_source s o v none j = by_test (from s o v) (λ t. absurd (none-some j.from (sym none ∙ ap (slice_get K) (sym (is_source v.source v.outlet s o t)) ∙ j.source))) (λ t. t)
    where
      is_source : (a b s o : ℕ) → (a == s && b == o) ≡ true → a ≡ s
      is_source a b s o t = grind (arith, nat_tests)

  pub fans_are : (s o : ℕ) → fan_out s o (wires_among w N K) ≡ fan_out s o laid
  fans_are s o = by_option (slice_get K s)
      (λ none. saved_none w N K s o numbered none
      ∙ sym (fan_none s o laid (all_on (JoinsAmong K) (λ v. from s o v ≡ false) laid (λ v j. no_source s o v none j) laid_joins)))
      (λ k at. saved_fan w N K s k o numbered at ∙ along_back N k o (fan_hops w k o) ∙ ap (map (back N k o)) (h.fans s o k at)
      ∙ backs N K s k o laid numbered at laid_joins)

  feeds_are : (i inlet k : ℕ) → slice_get K i ≡ Some k → feed_wires w N k inlet ≡ fan_into i inlet laid
  feeds_are i inlet k at = told_feeds N K numbered i k inlet at laid (feed_hops w k inlet) laid_joins (h.feeds i inlet k at)

-- ---- inside abstractions

module _ (p q : Patch) (t : Tree) (path : List ℕ) (c d : ℕ) (o : HasOpened p t q) (b : InsideBoth p t q path c d) (inside : IsWiredInside p.grove p.web t) where
  before : HasWiresOf p.web (keys_at p.grove c) b.canvas
  before = inside.all path c b.canvas b.before

  opened : HasWiresOf q.web (keys_at q.grove d) b.canvas
  opened = record {
    ports = o.wired.ports path d b.canvas b.now;
    fans = o.wired.fans path d b.canvas b.now;
    feeds = o.wired.feeds path d b.canvas b.now;
  }

  same_wires : HaveSameWires p c q d
  same_wires =
      let N = p.numbers.items in
      let K = keys_at p.grove c in
      let M = q.numbers.items in
      let L = keys_at q.grove d in
      record {
        ports = opened.ports ∙ sym before.ports;
        wires = sorted_same (wires_among q.web M L) (wires_among p.web N K) (saved_sorted q.web M L (o.opened.numbers d)) (saved_sorted p.web N K (o.runs.numbers c))
            (λ s x. fans_are q.web M L b.canvas (o.opened.numbers d) opened s x ∙ sym (fans_are p.web N K b.canvas (o.runs.numbers c) before s x));
      }

  same_feeds : HaveSameFeeds p c q d
  same_feeds = record {
    all = λ i inlet k j e f.
        feeds_are q.web q.numbers.items (keys_at q.grove d) b.canvas (o.opened.numbers d) opened i inlet j f
        ∙ sym (feeds_are p.web p.numbers.items (keys_at p.grove c) b.canvas (o.runs.numbers c) before i inlet k e);
  }

  pub same_inside : IsSameCanvas p c q d
  same_inside = record {
    wires = same_wires;
    feeds = same_feeds;
    order = orders_alike p q c d o.runs o.opened same_wires (record { before = b.canvas; now = b.canvas; stands = b.stands; again = b.again; sounds = λ i. refl });
  }

-- ---- in all canvases

same_own : (p q : Patch) (t : Tree) (path : List ℕ) (c d : ℕ) → HasOpened p t q → StandOnce p.web → HoldsWires p t → sub_reached p.grove (Some p.grove.root) path ≡ Some c
    → reached q.grove (Some q.grove.root) path ≡ Some d → IsSameCanvas p c q d
same_own p q t path c d o once h at there = record {
  wires = reopened p q t path c d o.runs o.fit o.opened.numbers o.stands o.made o.wired at there;
  feeds = feeds_alike p q t path c d o once h.fed h.meet (h.order path c at) at there;
  order = opened_orders p q t path c d o at there;
}

pub same_everywhere : (p q : Patch) (t : Tree) (path : List ℕ) (c d : ℕ) → HasOpened p t q → StandOnce p.web → HoldsWires p t
    → reached p.grove (Some p.grove.root) path ≡ Some c → reached q.grove (Some q.grove.root) path ≡ Some d → IsSameCanvas p c q d
same_everywhere p q t path c d o once h at there =
    by_option (sub_reached p.grove (Some p.grove.root) path)
    (λ out. same_inside p q t path c d o (inside_both p q t path c d o out at there) h.inside)
    (λ x own. same_own p q t path c d o once h
    (own ∙ ap (λ k. Some k) (same_Some x c (sym (sub_leads p.grove p.grove.root x path own) ∙ at))) there)

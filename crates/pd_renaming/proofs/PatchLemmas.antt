-- A patch of which a subpatch has another text.
use Rattle.std.proofs.Common.{◌≡◌, ℕ, List, Some, refl, sym, ap, ◌∙◌, subst}
use Rattle.std.proofs.lemmas.Option.{same_Some}
use Rattle.slab.specs.Slab.{Slab, get, ContainsKey}
use Rattle.pd_atom.specs.declared.Atom.{Atom}
use Rattle.pd_atom.specs.Names.{Names}
use Rattle.pd_clock.specs.declared.times.Rate.{Rate}
use Rattle.pd_grove.specs.declared.boards.Board.{Board}
use Rattle.pd_grove.specs.declared.grove.Grove.{Grove}
use Rattle.pd_grove.specs.declared.nodes.Node.{Node}
use Rattle.pd_grove.specs.Forest.{IsForest}
use Rattle.pd_grove.specs.Grafts.{AreAlike, HasBoxChanged}
use Rattle.pd_grove.specs.Refits.{with_text, Alters}
use Rattle.pd_bind.specs.Owning.{root_owner}
use Rattle.pd_web.specs.declared.web.Web.{Web}
use Rattle.pd_web.specs.Changes.{Meet}
use Rattle.pd_patch.specs.declared.patch.Patch.{Patch}
use Rattle.pd_patch.specs.Built.{IsBuilt, HasPorts}
use Rattle.pd_patch.specs.Linked.{StayInside}
use Rattle.pd_wiring.specs.Changes.{CanRewire}
use Rattle.pd_boxes.specs.Put.{CanPut}
use Rattle.pd_boxes.specs.Room.{SameButRoom}
use Rattle.pd_boxes.proofs.RoomLemmas.{room_put}
use Rattle.pd_renaming.specs.Renaming.{CanRename, StaysButNames, IsRenamed}
use Rattle.pd_renaming.proofs.TextLemmas.{alike_as, forest_as, inside_as, lived, none_as, none_was, orders_as, ports_as, small_as}
use Rattle.pd_renaming.proofs.NameLemmas.{is_now}

pub is_live : (g : Grove) (k : ℕ) (n : Node) → get g.nodes k ≡ Some n → ContainsKey g.nodes k
is_live g k n is = rw is refl

-- of the one box that stands under a key
pub renames_same : (p : Patch) (key : ℕ) (n m : Node) → CanRename p key n → get p.grove.nodes key ≡ Some m → CanRename p key m
renames_same p key n m C is = subst (λ (x : Node). CanRename p key x) (same_Some n m (sym C.is ∙ is)) C

module _ (p q : Patch) (key : ℕ) (written text : List Atom) (A : Alters p.grove q.grove key (with_text written text)) (S : StaysButNames p q) where
  still_rewires : IsForest (get p.grove.nodes) (get p.grove.boards) p.grove.root → CanRewire p → CanRewire q
  still_rewires F can = record {
    own = (forest_as p.grove q.grove key written text A F).own;
    ports = subst (λ (w : Web). HasPorts q.grove w) (sym S.web) (ports_as p.grove q.grove key written text A p.web can.ports);
    inside = subst (λ (w : Web). StayInside q.grove w) (sym S.web) (inside_as p.grove q.grove key written text A p.web can.inside);
    linked = rw (S.web, S.links) can.linked;
    orders = rw (S.web, S.orders) (orders_as p.grove q.grove key written text A p.web p.orders.items can.orders);
    numbers = λ c. rw (S.numbers, A.boards) (can.numbers c);
  }

  pub still_put : CanPut p → CanPut q
  still_put can = record {
    forest = forest_as p.grove q.grove key written text A can.forest;
    small = small_as p.grove q.grove key written text A can.small;
    apart = none_as p.grove q.grove key written text A root_owner can.apart;
    runs = still_rewires can.forest can.runs;
  }

module _ (p q : Patch) (table : Names) (key : ℕ) (n : Node) (written text : List Atom) (C : CanRename p key n) (R : IsRenamed p q table key n written text) where
  pub is_alike : AreAlike (get p.grove.nodes) (get q.grove.nodes) (get p.grove.boards) (get q.grove.boards)
  is_alike = alike_as p.grove q.grove key written text R.box

  pub is_changed : HasBoxChanged (get p.grove.nodes) (get q.grove.nodes) (get p.grove.boards) (get q.grove.boards) n.board key n (with_text written text n)
  is_changed = record {
    was = C.is;
    is = is_now p.grove q.grove key written text R.box n C.is;
    lay = refl;
    lies = refl;
    others = R.box.others;
    stay = λ x l. ap (λ (s : Slab Board). get s x) R.box.boards;
  }

  pub still_built : (file : List ℕ) (rate : Rate) → IsBuilt p table file rate → IsBuilt q table file rate
  still_built file rate B =
      let can = R.can in
      let live = lived p.grove q.grove key written text R.box in
      let none = none_was p.grove q.grove key written text R.box in
      record {
        own = can.runs.own;
        keys = λ k l. B.keys k (live k l);
        ports = can.runs.ports;
        owners = R.owners file B.owners;
        apart = can.apart;
        inside = can.runs.inside;
        linked = can.runs.linked;
        orders = can.runs.orders;
        numbers = can.runs.numbers;
        blocks = λ k l. rw (R.rest.web, R.rest.values) (B.blocks k (live k l));
        no_others = λ k outlet l. rw R.rest.values (B.no_others k outlet (none k l));
        room = λ k l. rw R.rest.timers (B.room k (live k l));
        same_rate = R.rest.rate ∙ B.same_rate;
      }

pub still_meet : (p q : Patch) (table : Names) (key : ℕ) (n : Node) (written text : List Atom) → IsRenamed p q table key n written text → Meet p.web → Meet q.web
still_meet p q table key n written text R meet = subst (λ (w : Web). Meet w) (sym R.rest.web) meet

-- Where room was set aside.

pub rename_still : (p q : Patch) (key : ℕ) (n : Node) → SameButRoom p q → CanRename p key n → CanRename q key n
rename_still p q key n S C = record { can = room_put p q S C.can; is = S.grove.nodes key ∙ C.is; sub = C.sub; canvas = C.canvas }

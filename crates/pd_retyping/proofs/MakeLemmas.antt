-- A box that is made another one: the wires at it that don't fit go, and those that turn go and come back.
use Rattle.std.proofs.Common.{◌≡◌, ℕ, ◌+◌, ◌≤◌, List, length, Some, sym, ap, ◌∙◌, subst, arith}
use Rattle.std.proofs.lemmas.Option.{same_Some}
use Rattle.slab.specs.Slab.{get}
use Rattle.pd_atom.specs.Names.{Names}
use Rattle.pd_object.specs.declared.kinds.Kind.{Kind}
use Rattle.pd_links.specs.Linked.{KeepsLinkRoom}
use Rattle.pd_grove.specs.declared.grove.Grove.{Grove}
use Rattle.pd_grove.specs.declared.nodes.Node.{Node}
use Rattle.pd_grove.specs.declared.seeds.Seed.{Seed}
use Rattle.pd_web.specs.Canvases.{keys_at}
use Rattle.pd_web.specs.Changes.{wires_told, KeepsRoom}
use Rattle.pd_patch.specs.declared.patch.Patch.{Patch}
use Rattle.pd_patch.specs.Listing.{IsThere}
use Rattle.pd_boxes.specs.Room.{SameButRoom}
use Rattle.pd_boxes.specs.Put.{CanPut}
use Rattle.pd_boxes.proofs.AskingLemmas.{put_rewired}
use Rattle.pd_boxes.proofs.RoomLemmas.{room_put}
use Rattle.pd_taking.specs.Loosening.{Loosens}
use Rattle.pd_refitting.specs.declared.room.RefitRoom.{RefitRoom}
use Rattle.pd_refitting.specs.Refits.{IsPlainIn, TakesWires, CanRefit, IsRefitted, refit_looks}
use Rattle.pd_refitting.specs.Room.{IsFor, TakesRefit}
use Rattle.pd_refitting.proofs.BoxLemmas.{still_put}
use Rattle.pd_refitting.proofs.RoomLemmas.{plain_still}
use Rattle.pd_refitting.proofs.WireLemmas.{meet_by}
use Rattle.pd_misfits.specs.declared.wires.BoxWire.{BoxWire}
use Rattle.pd_misfits.specs.Misfits.{misfits, turning}
use Rattle.pd_misfits.specs.Shedding.{AllFit, AreWiresAt, IsWired, Sheds}
use Rattle.pd_misfits.proofs.FitLemmas.{keeps_fit, left_stay}
use Rattle.pd_misfits.proofs.RoomLemmas.{refit_lasts}
use Rattle.pd_misfits.proofs.SameLemmas.{wires_still}
use Rattle.pd_misfits.proofs.ToldLemmas.{turning_still, turning_wires_stay}
use Rattle.pd_turning.specs.declared.noting.NotedWire.{NotedWire}
use Rattle.pd_turning.specs.Notes.{notes_of, FollowFans, StandOnce}
use Rattle.pd_turning.specs.Returns.{CanReturn, PutsBack}
use Rattle.pd_turning.specs.Room.{TakesBack}
use Rattle.pd_turning.proofs.FollowLemmas.{told_follow}
use Rattle.pd_turning.proofs.LawLemmas.{back_loosened, back_refitted, can_return}
use Rattle.pd_adding.specs.Coming.{zero_in, own_zero}
use Rattle.pd_retyping.specs.Becoming.{CanMake, MakesOther, Remakes}
use Rattle.pd_retyping.proofs.BecomeLemmas.{lies_there, refit_wires, refit_zero}
use Rattle.pd_retyping.proofs.ReadyLemmas.{misfits_ready, turning_ready}

-- Where room was set aside, the box can be made the same one.

module _ (p ready : Patch) (key : ℕ) (n : Node) (s : Seed) (gone turned : List BoxWire) (C : CanMake p key n s gone turned) (S : SameButRoom p ready) where
  plain_ready : (k : Kind) → IsPlainIn p n.board k → IsPlainIn ready n.board k
  plain_ready k h = plain_still p ready n.board k S h

  pub ready_makes : CanMake ready key n s gone turned
  ready_makes = record {
    can = room_put p ready S C.can;
    meet = meet_by p.web ready.web S.web.fans S.web.feeds C.meet;
    is = S.grove.nodes key ∙ C.is;
    alike = record { bare = C.alike.bare; plain = plain_ready n.kind C.alike.plain; stays_plain = plain_ready s.row.kind C.alike.stays_plain };
    leaf = C.leaf;
    gone_are = C.gone_are ∙ sym (misfits_ready p ready n.board key s.row.kind S);
    wires = wires_still p.web ready.web key gone S.web C.wires;
    turned_are = C.turned_are ∙ sym (turning_ready p ready n.board key s.row.kind S);
    turning_wires = wires_still p.web ready.web key turned S.web C.turning_wires;
  }

-- the room is for this box and this seed
module _ (p : Patch) (room : RefitRoom) (key : ℕ) (n : Node) (s : Seed) (gone turned : List BoxWire) (F : IsFor room key s) where
  pub room_makes : CanMake p key n s gone turned → CanMake p room.key n room.seed gone turned
  room_makes C = subst (λ (k : ℕ). CanMake p k n room.seed gone turned) (sym F.key) (subst (λ (x : Seed). CanMake p key n x gone turned) (sym F.seed) C)

  pub room_remakes : (q : Patch) (names table : Names) (steps steps' : ℕ) → names ≡ table → Remakes p q names room.key n room.seed gone turned steps steps' → Remakes p q table key n s gone turned steps steps'
  room_remakes q names table steps steps' e M =
      subst (λ (t : Names). Remakes p q t key n s gone turned steps steps') e
      (subst (λ (x : Seed). Remakes p q names key n x gone turned steps steps') F.seed (subst (λ (k : ℕ). Remakes p q names k n room.seed gone turned steps steps') F.key M))

-- room was set aside for a box and a seed, and the wires are told as slices
module _ (p ready : Patch) (room : RefitRoom) (key : ℕ) (n : Node) (s : Seed) (gone turned gs ts : List BoxWire) (F : IsFor room key s) (S : SameButRoom p ready) (g : gs ≡ gone) (t : ts ≡ turned) where
  pub reserved_makes : CanMake p key n s gone turned → CanMake ready room.key n room.seed gs ts
  reserved_makes C =
      subst (λ (ms : List BoxWire). CanMake ready room.key n room.seed ms ts) (sym g)
      (subst (λ (ms : List BoxWire). CanMake ready room.key n room.seed gone ms) (sym t) (room_makes ready room key n s gone turned F (ready_makes p ready key n s gone turned C S)))

  pub reserved_made : (q : Patch) (names table : Names) (steps steps' : ℕ) → names ≡ table → Remakes ready q names room.key n room.seed gs ts steps steps' → MakesOther p q table key n s gone turned steps steps'
  reserved_made q names table steps steps' e M = record {
    ready = ready;
    room = S;
    made =
        room_remakes ready room key n s gone turned F q names table steps steps' e
        (subst (λ (ms : List BoxWire). Remakes ready q names room.key n room.seed gone ms steps steps') t
        (subst (λ (ms : List BoxWire). Remakes ready q names room.key n room.seed ms ts steps steps') g M));
  }

-- the same box under the key
pub makes_same : (p : Patch) (key : ℕ) (m n : Node) (s : Seed) (gone turned : List BoxWire) → CanMake p key m s gone turned → get p.grove.nodes key ≡ Some n → CanMake p key n s gone turned
makes_same p key m n s gone turned C is = subst (λ (x : Node). CanMake p key x s gone turned) (same_Some m n (sym C.is ∙ is)) C

-- as many went as wires are fewer
pub as_told : (p q : Patch) (key steps steps' : ℕ) (ms : List BoxWire) (L : Loosens p q key steps steps') → wires_told q.web + length ms ≡ wires_told p.web → length L.gone ≡ length ms
as_told p q key steps steps' ms L fewer = let all = L.count in omega (arith, all, fewer)

-- The wires that don't fit went.

module _ (p loose : Patch) (key : ℕ) (n : Node) (s : Seed) (gone turned : List BoxWire) (C : CanMake p key n s gone turned) (W : IsWired p.web) (steps between : ℕ) (L : Loosens p loose key steps between)
    (D : Sheds p.web loose.web gone) where
  abbrev k : Kind
  k = s.row.kind

  here : IsThere (keys_at p.grove n.board) key
  here = lies_there p key n C.can C.is

  here_still : IsThere (keys_at loose.grove n.board) key
  here_still = subst (λ (g : Grove). IsThere (keys_at g n.board) key) (sym L.rest.grove) here

  misfits_went : Sheds p.web loose.web (misfits p n.board key k)
  misfits_went = subst (λ (ms : List BoxWire). Sheds p.web loose.web ms) C.gone_are D

  -- the same wires turn
  still_turned : turned ≡ turning loose n.board key k
  still_turned = C.turned_are ∙ sym (turning_still p loose n.board key k W L.rest.grove L.rest.numbers L.web.kept misfits_went)

  pub turned_wires : AreWiresAt loose.web key turned
  turned_wires =
      subst (λ (ms : List BoxWire). AreWiresAt loose.web key ms) (sym C.turned_are)
      (turning_wires_stay p loose.web n.board key k W L.web.kept misfits_went (subst (λ (ms : List BoxWire). AreWiresAt p.web key ms) C.turned_are C.turning_wires))

  pub turned_follow : IsWired loose.web → StandOnce loose.web → FollowFans loose.web turned
  turned_follow wired once = subst (FollowFans loose.web) (sym still_turned) (told_follow loose n.board key k L.rewires L.web.meet wired once here_still)

  all_fit : AllFit loose.web key k
  all_fit = (keeps_fit p loose.web n.board key k C.can.runs C.meet W here L.web.kept misfits_went).fit

  -- Those that turn went too.

  module _ (free : Patch) (freed : ℕ) (F : Loosens loose free key between freed) (O : Sheds loose.web free.web turned) where
    same_grove : free.grove ≡ p.grove
    same_grove = F.rest.grove ∙ L.rest.grove

    free_wires : TakesWires free.web key k
    free_wires = left_stay loose free.web n.board key k L.rewires L.web.meet here_still all_fit F.web.kept (subst (λ (ms : List BoxWire). Sheds loose.web free.web ms) still_turned O)

    free_plain : (x : Kind) → IsPlainIn p n.board x → IsPlainIn free n.board x
    free_plain x h = subst (λ (g : Grove). IsPlainIn (record p { grove = g }) n.board x) (sym same_grove) h

    pub free_refits : CanRefit free key n s
    free_refits = record {
      can = put_rewired loose free F.rest.grove F.rewires (put_rewired p loose L.rest.grove L.rewires C.can);
      is = ap (λ (g : Grove). get g.nodes key) same_grove ∙ C.is;
      bare = C.alike.bare;
      leaf = C.leaf;
      wires = free_wires;
      meet = F.web.meet;
      plain = free_plain n.kind C.alike.plain;
      stays_plain = free_plain k C.alike.stays_plain;
    }

    pub free_room : (room : RefitRoom) (table : Names) → TakesRefit p room table → TakesRefit free room table
    free_room room table T = refit_lasts loose free key between freed room table F (refit_lasts p loose key steps between room table L T)

    -- The box became the other one.

    module _ (fitted : Patch) (table : Names) (R : IsRefitted free fitted table key n s) where
      back_room : KeepsLinkRoom p.links loose.links → KeepsLinkRoom loose.links free.links → KeepsRoom free.web fitted.web → TakesBack p turned → TakesBack fitted turned
      back_room went out room T =
          back_refitted free fitted turned table key n s R room (back_loosened loose free turned key between freed F out (back_loosened p loose turned key steps between L went T))

      pub fitted_return : (notes : List NotedWire) → IsWired loose.web → StandOnce loose.web → notes ≡ notes_of loose.web turned → KeepsLinkRoom p.links loose.links → KeepsLinkRoom loose.links free.links
          → KeepsRoom free.web fitted.web → TakesBack p turned → CanReturn loose.web fitted key turned notes
      fitted_return notes wired once noted went out room T =
          subst (λ (ms : List BoxWire). AreWiresAt loose.web key ms → notes ≡ notes_of loose.web ms → Sheds loose.web free.web ms → TakesBack fitted ms → CanReturn loose.web fitted key ms notes) (sym still_turned)
          (λ A e X B. can_return loose free fitted table key between freed n s F R n.board notes L.rewires L.web.meet wired once here_still A e X free_refits B)
          turned_wires noted O (back_room went out room T)

      -- Those that turn came back.

      module _ (q : Patch) (placed steps' : ℕ) (B : PutsBack loose.web fitted q key turned placed steps') where
        pub made_put : CanPut q
        made_put = put_rewired fitted q B.tightens.rest.grove B.tightens.rewires (still_put free fitted table key n s free_refits R)

        pub made_zero : own_zero q ≡ own_zero p
        made_zero =
            ap (λ (g : Grove). zero_in (get g.boards g.root)) B.tightens.rest.grove ∙ refit_zero free fitted table key n s R
            ∙ ap (λ (g : Grove). zero_in (get g.boards g.root)) same_grove

        pub made_wires : wires_told free.web + length turned ≡ wires_told loose.web → wires_told loose.web ≡ wires_told q.web
        made_wires out =
            let fitted_wires = refit_wires free fitted table key n s R in
            let count = B.tightens.count in
            let all = B.as_many in
            omega (arith, out, fitted_wires, count, all)

        pub remade : wires_told loose.web + length gone ≡ wires_told p.web → wires_told free.web + length turned ≡ wires_told loose.web → placed ≤ freed + refit_looks n.kind k
            → Remakes p q table key n s gone turned steps steps'
        remade went out looks = record {
          loose = loose;
          between = between;
          loosens = L;
          sheds = D;
          went = as_told p loose key steps between gone L went;
          free = free;
          freed = freed;
          frees = F;
          out = O;
          as_many = as_told loose free key between freed turned F out;
          could = free_refits;
          fitted = fitted;
          refit = R;
          placed = placed;
          looks = looks;
          back = B;
        }

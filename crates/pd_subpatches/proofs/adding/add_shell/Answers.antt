use Rattle.std.proofs.Common.{◌≡◌, ℕ, List, length, sym, ap, ◌∙◌, subst}
use Rattle.pd_atom.specs.Names.{Names}
use Rattle.pd_grove.specs.declared.seeds.Seed.{Seed}
use Rattle.pd_web.specs.Canvases.{keys_at}
use Rattle.pd_boxes.specs.declared.room.Place.{Place}
use Rattle.pd_boxes.proofs.RoomLemmas.{keys_same}
use Rattle.pd_subpatches.specs.Shell.{IsShell, IsShellPut}
use Rattle.pd_subpatches.proofs.adding.add_shell.Goals as goal

pub returns-clause-put : goal.returns-clause-put
returns-clause-put g c =
    let q = c.reserve_shell.new.patch in
    let r = c.put_shell.new.patch in
    let room = c.in_ok-room.room in
    let k = c.put_shell.result in
    record {
      ready = q;
      room = c.reserve_shell.ensures.same;
      put = subst (λ (t : Names). IsShellPut q r t c.args.place c.args.seed k) c.reserve_shell.ensures.table
          (subst (λ (x : Place). IsShellPut q r c.reserve_shell.new.symbols x c.args.seed k) c.in_ok-room.ensures.comes.place
          (subst (λ (x : Seed). IsShellPut q r c.reserve_shell.new.symbols room.place x k) c.in_ok-room.ensures.comes.seed c.put_shell.ensures.put));
    }

pub returns-clause-goes_on : goal.returns-clause-goes_on
returns-clause-goes_on g c =
    let q = c.reserve_shell.new.patch in
    let room = c.in_ok-room.room in
    c.shells_run_on.ensures.can q c.put_shell.new.patch c.reserve_shell.new.symbols room.place room.seed c.put_shell.result
    (c.room_changes_nothing.ensures.can c.args.patch.now q c.reserve_shell.ensures.same c.requires.can) (subst IsShell (sym c.in_ok-room.ensures.comes.seed) c.requires.shell) c.put_shell.ensures.put

pub returns-clause-last_looks : goal.returns-clause-last_looks
returns-clause-last_looks g c e =
    let q = c.reserve_shell.new.patch in
    c.put_shell.ensures.last_looks (subst (λ (at : Place). at.number ≡ length (keys_at q.grove at.canvas)) (sym c.in_ok-room.ensures.comes.place)
    (e ∙ ap (λ (ks : List ℕ). length ks) (sym (keys_same c.args.patch.now.grove q.grove c.reserve_shell.ensures.same.grove c.args.place.canvas))))

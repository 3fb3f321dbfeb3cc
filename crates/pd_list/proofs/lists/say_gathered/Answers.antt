use Rattle.std.proofs.Common.{◌≡◌, List, [], ◌∷◌, ◌++◌, length, map, slice_range, refl, sym, ◌∙◌, ap, arith}
use Rattle.pd_atom.specs.declared.Atom.{Atom}
use Rattle.pd_kind.specs.declared.messages.Deed.TheVariants.{Nothing}
use Rattle.pd_kind.specs.declared.messages.Target.TheVariants.{Outlet}
use Rattle.pd_kind.specs.declared.sends.SendRow.{SendRow}
use Rattle.pd_kind.specs.Forming.{list_send, cut_atoms, cut_notices}
use Rattle.pd_kind.specs.Rows.{Send, send_of}
use Rattle.pd_list.proofs.CutLemmas.{range_all}
use Rattle.pd_list.proofs.lists.say_gathered.Goals as goal

pub returns : goal.returns
returns c = λ list count_is atoms_are.
    let before : map (send_of c.note_cut.new.out.atoms) c.note_cut.new.out.rows ≡ [] = c.note_cut.ensures.sends ∙ ap (λ (rows : List SendRow). map (send_of c.args.out.now.atoms) rows) c.requires.rows in
    let range : slice_range c.note_cut.new.out.atoms 0 c.len-length.result ≡ cut_atoms list =
    ap (slice_range c.note_cut.new.out.atoms 0) c.len-length.ensures ∙ range_all c.note_cut.new.out.atoms ∙ c.note_cut.ensures.atoms ∙ atoms_are in
    let sends : map (send_of c.send_filled.new.self.atoms) c.send_filled.new.self.rows ≡ list_send (Outlet 0) (cut_atoms list) ∷ [] =
    c.send_filled.ensures.sends ∙ ap (λ (ss : List Send). ss ++ list_send (Outlet 0) (slice_range c.note_cut.new.out.atoms 0 c.len-length.result) ∷ []) before
    ∙ ap (λ (xs : List Atom). list_send (Outlet 0) xs ∷ []) range in
    let deed : c.send_filled.new.self.deed ≡ Nothing = c.send_filled.ensures.deed ∙ c.note_cut.ensures.deed ∙ c.requires.deed in
    let notices : c.send_filled.new.self.notices ≡ cut_notices list = c.send_filled.ensures.notices ∙ c.note_cut.ensures.notices list count_is in
    rw (sends, deed, notices) refl

-- A sound document suits growth.
use Rattle.std.proofs.Common.{List, [], ◌∷◌}
use Rattle.pd_atom.specs.Names.{Names}
use Rattle.pd_atom.specs.declared.Atom.{Atom}
use Rattle.pd_canvas.specs.Pages.{Boxes, End, Box, Page}
use Rattle.pd_canvas.specs.Proper.{AreReady, AreBoxes, IsSound}
use Rattle.pd_regrowth_law.specs.Suits.{AreOf, TextsOf, HoldNone}

ready_of : (names : Names) (atoms : List Atom) → AreReady names atoms → AreOf names atoms
ready_of names [] h = tt
ready_of names (a ∷ atoms) h = (h.0.0, ready_of names atoms h.1)

texts_of_boxes : (names : Names) (b : Boxes) → AreBoxes names b → TextsOf names b
texts_of_boxes names End h = tt
texts_of_boxes names (Box d f inner rest) h = (ready_of names d.text h.0.text.0, texts_of_boxes names inner h.3, texts_of_boxes names rest h.4)

none_of_boxes : (names : Names) (b : Boxes) → AreBoxes names b → HoldNone b
none_of_boxes names End h = tt
none_of_boxes names (Box d f inner rest) h = (h.1, none_of_boxes names inner h.3, none_of_boxes names rest h.4)

pub texts_of_sound : (names : Names) (p : Page) → IsSound names p → TextsOf names p.boxes
texts_of_sound names p h = texts_of_boxes names p.boxes h.1

pub none_of_sound : (names : Names) (p : Page) → IsSound names p → HoldNone p.boxes
none_of_sound names p h = none_of_boxes names p.boxes h.1

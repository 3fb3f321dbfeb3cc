-- The document of a patch.
use Rattle.pd_canvas.specs.Pages.{Page}
use Rattle.pd_present.specs.Presents.{present_page}
use Rattle.pd_patch.specs.declared.patch.Patch.{Patch}

-- as it stands: with the present texts of message boxes, the values of saved arrays and of toggles, and the wires that there are
abbrev pub present_document : Patch → Page
present_document p = present_page p.grove p.web p.numbers.items

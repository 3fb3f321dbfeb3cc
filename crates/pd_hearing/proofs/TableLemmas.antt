-- Tables of names that go on.
use Rattle.std.proofs.Common.{◌≡◌, ◌++◌, [], sym, ap, ◌∙◌, append_assoc, append-nil}
use Rattle.pd_atom.specs.Names.{Names, Extends}

pub extends-same : (old new : Names) → new ≡ old → Extends old new
extends-same old new e = ([], e ∙ sym (append-nil old))

pub extends-then : (a b c : Names) → Extends a b → Extends b c → Extends a c
extends-then a b c e f = (e.0 ++ f.0, f.1 ∙ ap (λ (l : Names). l ++ f.0) e.1 ∙ append_assoc a e.0 f.0)

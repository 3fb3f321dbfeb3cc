use Rattle.std.proofs.Common.{inl, refl}
use Rattle.pd_shifting.proofs.shifting.shift.Goals as goal

pub returns : goal.returns
returns c = λ path number is. record {
  is = is;
  shifts = inl (record {
    plain = c.requires.plain;
    box = c.move_box.ensures;
    rest = record { web = refl; names = refl; timers = refl; links = refl; orders = refl; numbers = refl; values = refl; rate = refl; present = refl };
  });
  around = refl;
  x_told = c.requires.x_told;
  y_told = c.requires.y_told;
}

use Rattle.std.proofs.Common.{arith, w64, refl}
use Rattle.std.proofs.lemmas.Int.{to_z-of_z, fits_signed_mul}
use Rattle.pd_signal.proofs.pairs.small_product.Goals as goal

pub returns : goal.returns
returns c =
    let fx = c.ranges.x in
    let fy = c.ranges.y in
    let product_fits = fits_signed_mul w64 c.args.x c.args.y 3037000499 3037000499 c.requires.x c.requires.y (omega arith) in
    simp to_z-of_z refl

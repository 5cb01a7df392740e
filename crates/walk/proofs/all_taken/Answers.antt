-- `all_taken` compares with so many ones, each side one more.
use native.Mathlib.Omega.{arith}
use lib.Pow.{pow-lt}
use Prim.Native.Nat.{◌<◌}
use Rattle.walk.proofs.WholeMask.{whole_told}
use Rattle.walk.proofs.all_taken.Goals as goal

pub returns : goal.returns
returns c =
    let few : c.args.records < 32 = omega (arith, c.requires) in
    whole_told c.args.mask c.args.records _ _ (omega (arith, c.from.ensures)) (omega (arith, pow-lt few))

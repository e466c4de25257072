use Rattle.std.proofs.Common.{◌^◌, ◌≤◌, ◌<◌, sym, arith}
use Rattle.std.proofs.Math.Pow.{pow_mono}
use Rattle.std.proofs.lemmas.Nat.{pow_below}
use Rattle.std.proofs.lemmas.Bool.{lt-ltb}
use Rattle.gt_fit.proofs.rooms.is_below.Goals as goal

pub returns-then-bits-ge128 : goal.returns-then-bits-ge128
returns-then-bits-ge128 c =
    let h : 128 ≤ c.args.bits = omega arith in
    let le = pow_mono h in
    let less : c.args.n < 2 ^ c.args.bits = omega (arith, c.ranges.n.fits, le) in
    sym (lt-ltb c.args.n (2 ^ c.args.bits) less)

pub pow-requires : goal.pow-requires
pow-requires c = pow_below c.args.bits 128 (omega arith)

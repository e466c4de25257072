use Rattle.std.proofs.Common.{◌≡◌, rules, arith}
use Rattle.gt_expr.specs.Characters.{width_at}
use Rattle.gt_expr.proofs.CharactersLemmas.{width_at-within, width_at-some}
use Rattle.gt_expr.proofs.characters.width_at.Goals as goal

pub returns-clause-within : goal.returns-clause-within
returns-clause-within c = λ some.
    let width : c.map_or.result ≡ width_at c.args.text.now = search rules in
    omega (arith, width_at-within c.args.text.now some)

pub returns-clause-some : goal.returns-clause-some
returns-clause-some c =
    let width : c.map_or.result ≡ width_at c.args.text.now = search rules in
    omega (arith, width_at-some c.args.text.now)

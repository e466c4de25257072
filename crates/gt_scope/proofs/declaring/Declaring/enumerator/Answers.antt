use Rattle.std.proofs.Common.{◌∙◌, ℕ, List, ◌∷◌, ap}
use Rattle.gt_items.specs.declared.items.Enumerator.{Enumerator}
use Rattle.gt_scope.specs.Declarations.{enumerators, value_at}
use Rattle.gt_scope.proofs.DeclaringLemmas.{valued-step}
use Rattle.gt_scope.proofs.declaring.Declaring.enumerator.Goals as goal

pub returns-in_ok-enumerate-in-Valued : goal.returns-in_ok-enumerate-in-Valued
returns-in_ok-enumerate-in-Valued c = λ rest.
    ap (λ (piece : Enumerator). enumerators c.args.file c.args.count (piece ∷ rest) c.args.self.now) c.in-Valued.is
    ∙ valued-step c.args.file c.args.count c.in_ok-value-in-Valued.value c.next_count-in-Valued.result c.in-Valued.name c.in-Valued.text rest c.args.self.now
    c.value_at.new.self c.enumerate-in-Valued.new.self
    (c.in_ok-value-in-Valued.ensures.value ∙ ap (λ (text : List ℕ). value_at c.args.file c.in-Valued.name text c.args.self.now) c.as_slice.ensures.bytes)
    c.in_ok-value-in-Valued.ensures.declared c.in_ok-enumerate-in-Valued.ensures c.next_count-in-Valued.ensures

use Rattle.std.proofs.Common.{◌∙◌, ap₂}
use Rattle.gt_scope.specs.Declarations.{declare_alias}
use Rattle.gt_scope.specs.declared.types.Spelled.TheVariants.{Tagged}
use Rattle.gt_scope.proofs.DeclaringLemmas.{structure-alone, structure-named}
use Rattle.gt_scope.proofs.declaring.Declaring.declare_structure.Goals as goal

pub returns-in_default : goal.returns-in_default
returns-in_default c = structure-alone c.args.file c.args.s.now c.args.self.now c.declare_tag.new.self c.in_default.is c.in_ok-declare_tag.ensures

pub returns : goal.returns
returns c =
    structure-named c.args.file c.args.s.now c.in-Some.alias c.args.self.now c.declare_tag.new.self c.declare_alias.new.self c.in-Some.is c.in_ok-declare_tag.ensures
    (c.in_ok-declare_alias.ensures.declared ∙ ap₂ (λ keyword tag. declare_alias c.args.file (Tagged keyword tag) c.in-Some.alias c.declare_tag.new.self) c.keyword_of.ensures c.in_ok-copy.ensures.same)

use Rattle.std.proofs.Common.{◌≡◌, drop, Some, IsTrue}
use Rattle.gt_scope.specs.Declarations.{declare_aliases}
use Rattle.gt_scope.specs.Repeats.{last_type}
use Rattle.gt_scope.proofs.declaring.Declaring.declare_aliases.Given as goal

abbrev pub invariant-loop-alias : goal.invariant-loop-alias
invariant-loop-alias l =
    record {
      steps : declare_aliases l.file l.ty (drop l.alias-index l.aliases) l.self ≡ declare_aliases l.file l.ty l.aliases l.fn.self;
      repeated : IsTrue l.repeated → last_type l.self.done ≡ Some l.ty;
    }

-- The numbers of the kinds of objects.
use Rattle.std.specs.Prelude.{ℕ}
use Rattle.gt_imgfmt.specs.declared.kinds.Kind.{Kind}
use Rattle.gt_imgfmt.specs.declared.kinds.Kind.TheVariants.{Nodes, Pointers, Strings, Chars, Raw}

-- the number by which an image names the kind
abbrev pub kind_number : Kind → ℕ
kind_number Nodes = 0
kind_number Pointers = 1
kind_number Strings = 2
kind_number Chars = 3
kind_number Raw = 4

-- A program with a form of each kind, small enough to be proved settled by hand, so that values can be tried before headers give programs.
use Rattle.std.specs.Prelude.{ℕ, true, false, pos, List, [], ◌∷◌, Option, Some, None, codes}
use Rattle.gt_types.specs.declared.expressions.Base.{Base}
use Rattle.gt_types.specs.declared.expressions.Base.TheVariants.{Here, Outer, Outermost}
use Rattle.gt_types.specs.declared.expressions.Expr.{Expr}
use Rattle.gt_types.specs.declared.expressions.Expr.TheVariants as expr
use Rattle.gt_types.specs.declared.types.TypeId.{TypeId}
use Rattle.gt_types.specs.declared.types.Width.TheVariants.{W1, W2, W4, W8}
use Rattle.gt_types.specs.declared.types.Scalar.{Scalar}
use Rattle.gt_types.specs.declared.types.Scalar.TheVariants as scalar
use Rattle.gt_types.specs.declared.types.Target.TheVariants as target
use Rattle.gt_types.specs.declared.types.PtrKind.TheVariants as kind
use Rattle.gt_types.specs.declared.types.Ty.{Ty}
use Rattle.gt_types.specs.declared.types.Ty.TheVariants as ty
use Rattle.gt_types.specs.declared.program.Active.TheVariants.{Always, Tag, Other, Never}
use Rattle.gt_types.specs.declared.program.Field.{Field}
use Rattle.gt_types.specs.declared.program.Structure.{Structure}
use Rattle.gt_types.specs.declared.program.Root.{Root}
use Rattle.gt_types.specs.declared.program.Program.{Program}

abbrev pub int : Ty
int = ty.Num (scalar.Int W4 true)

abbrev pub short : Scalar
short = scalar.Int W2 true

abbrev pub node : ℕ → TypeId
node i = record { 0 = i }

abbrev pub field : List ℕ → Ty → Field
field name type = record { name = name; ty = type; active = Always }

abbrev pub member : List ℕ → Ty → ℕ → Field
member name type tag = record { name = name; ty = type; active = Tag (pos tag) }

abbrev pub struct : List ℕ → List Field → Structure
struct name fields = record { name = name; is_union = false; desc = None; fields = fields; chains = [] }

abbrev pub union : List ℕ → Option Expr → List Field → Structure
union name desc fields = record { name = name; is_union = true; desc = desc; fields = fields; chains = [] }

abbrev pub path : Base → List (List ℕ) → Expr
path base names = expr.Path base names

abbrev pub pointer_to : ℕ → Ty
pointer_to i = ty.Ptr (Some (target.Node (node i))) kind.Plain false

abbrev pub held : ℕ → Ty
held i = ty.Node (node i) None

abbrev pub described : ℕ → Expr → Ty
described i desc = ty.Node (node i) (Some desc)

-- struct item { int n; }
abbrev pub item : Structure
item = struct (codes "item") (field (codes "n") int ∷ [])

-- struct base { short kind; struct item *p; }
abbrev pub base : Structure
base = struct (codes "base") (field (codes "kind") (ty.Num (scalar.Int W2 true)) ∷ field (codes "p") (pointer_to 0) ∷ [])

-- struct wide { struct base b; long x; struct item *q; }
abbrev pub wide : Structure
wide = struct (codes "wide") (field (codes "b") (held 1) ∷ field (codes "x") (ty.Num (scalar.Int W8 true)) ∷ field (codes "q") (pointer_to 0) ∷ [])

-- the number by which the member of a union is chosen that begins with `base`
abbrev pub own_kind : Expr
own_kind = path Here (codes "b" ∷ codes "kind" ∷ [])

-- union form { struct base b; (tag 1)  struct wide w; (tag 2) }, chosen by %h.b.kind
abbrev pub form : Structure
form = union (codes "form") (Some own_kind) (member (codes "b") (held 1) 1 ∷ member (codes "w") (held 2) 2 ∷ [])

-- union pay { long num; (tag 0)  struct item *ref; (tag 1) }
abbrev pub pay : Structure
pay = union (codes "pay") None (member (codes "num") (ty.Num (scalar.Int W8 true)) 0 ∷ member (codes "ref") (pointer_to 0) 1 ∷ [])

-- struct cell { unsigned char sel; union pay u; (%1.sel)  union form f; unsigned lo : 3; int hi : 5; bool flag; 8 opaque bytes raw; }
abbrev pub cell : Structure
cell =
    struct (codes "cell")
    (field (codes "sel") (ty.Num (scalar.Int W1 false)) ∷ field (codes "u") (described 4 (path Outer (codes "sel" ∷ []))) ∷ field (codes "f") (described 3 own_kind)
    ∷ field (codes "lo") (ty.Bits (scalar.Int W4 false) 3) ∷ field (codes "hi") (ty.Bits (scalar.Int W4 true) 5) ∷ field (codes "flag") (ty.Num scalar.Bool)
    ∷ field (codes "raw") (ty.Opaque 8 8) ∷ [])

-- struct vec { int num; struct item *elem[num]; }
abbrev pub vec : Structure
vec = struct (codes "vec") (field (codes "num") int ∷ field (codes "elem") (ty.Tail (path Here (codes "num" ∷ [])) (pointer_to 0)) ∷ [])

abbrev pub own_len : Expr
own_len = path Here (codes "len" ∷ [])

-- struct hold { int len; struct item *list; (len of them)  char *s; char *t; (len characters)  void *raw; (atomic)  short grid[2][3]; 4 opaque bytes few; }
abbrev pub hold : Structure
hold =
    struct (codes "hold")
    (field (codes "len") int ∷ field (codes "list") (ty.Ptr (Some (target.Node (node 0))) (kind.Length own_len) false) ∷ field (codes "s") (ty.Str None)
    ∷ field (codes "t") (ty.Str (Some own_len)) ∷ field (codes "raw") (ty.Ptr None kind.Atomic false)
    ∷ field (codes "grid") (ty.Arr 2 (ty.Arr 3 (ty.Num (scalar.Int W2 true)))) ∷ field (codes "few") (ty.Opaque 4 4) ∷ [])

-- union duo { struct cell c; (tag 0)  long k; (tag 1) }
abbrev pub duo : Structure
duo = union (codes "duo") None (member (codes "c") (held 5) 0 ∷ member (codes "k") (ty.Num (scalar.Int W8 true)) 1 ∷ [])

-- struct two { int tag; union duo d; (%1.tag) }
abbrev pub two : Structure
two = struct (codes "two") (field (codes "tag") int ∷ field (codes "d") (described 8 (path Outer (codes "tag" ∷ []))) ∷ [])

-- struct vecb { struct base b; int num; short elem[num]; }
abbrev pub vecb : Structure
vecb =
    struct (codes "vecb")
    (field (codes "b") (held 1) ∷ field (codes "num") int ∷ field (codes "elem") (ty.Tail (path Here (codes "num" ∷ [])) (ty.Num (scalar.Int W2 true))) ∷ [])

-- union any { struct base b; (tag 1)  struct vecb v; (tag 2) }, chosen by %h.b.kind
abbrev pub any : Structure
any = union (codes "any") (Some own_kind) (member (codes "b") (held 1) 1 ∷ member (codes "v") (held 10) 2 ∷ [])

-- union rest { long num; (tag 0)  int old; (never active)  struct item *ref; (default) }
abbrev pub rest : Structure
rest =
    union (codes "rest") None
    (member (codes "num") (ty.Num (scalar.Int W8 true)) 0 ∷ record { name = codes "old"; ty = int; active = Never }
    ∷ record { name = codes "ref"; ty = pointer_to 0; active = Other } ∷ [])

abbrev pub own_num : Expr
own_num = path Here (codes "num" ∷ [])

abbrev pub outer_num : Expr
outer_num = path Outer (codes "num" ∷ [])

-- struct big { unsigned long num; union pay u; (%1.num)  union rest v; (%1.num)  struct item *list; (num of them)  signed char a; unsigned short c; unsigned e;
-- unsigned x : 12; int y : 15; a pointer und to what is not defined }
abbrev pub big : Structure
big =
    struct (codes "big")
    (field (codes "num") (ty.Num (scalar.Int W8 false)) ∷ field (codes "u") (described 4 outer_num) ∷ field (codes "v") (described 12 outer_num)
    ∷ field (codes "list") (ty.Ptr (Some (target.Node (node 0))) (kind.Length own_num) false) ∷ field (codes "a") (ty.Num (scalar.Int W1 true))
    ∷ field (codes "c") (ty.Num (scalar.Int W2 false)) ∷ field (codes "e") (ty.Num (scalar.Int W4 false)) ∷ field (codes "x") (ty.Bits (scalar.Int W4 false) 12)
    ∷ field (codes "y") (ty.Bits (scalar.Int W4 true) 15) ∷ field (codes "und") (ty.Ptr None kind.Undef false) ∷ [])

abbrev pub own_n : Expr
own_n = path Here (codes "n" ∷ [])

-- struct bigv { unsigned long n; short elem[n]; }
abbrev pub bigv : Structure
bigv = struct (codes "bigv") (field (codes "n") (ty.Num (scalar.Int W8 false)) ∷ field (codes "elem") (ty.Tail own_n (ty.Num (scalar.Int W2 true))) ∷ [])

-- struct kindv { struct base b; short elem[b.kind]; }
abbrev pub kindv : Structure
kindv = struct (codes "kindv") (field (codes "b") (held 1) ∷ field (codes "elem") (ty.Tail own_kind (ty.Num (scalar.Int W2 true))) ∷ [])

-- union ever { struct base b; (tag 1)  struct kindv v; (tag 2) }, chosen by %h.b.kind
abbrev pub ever : Structure
ever = union (codes "ever") (Some own_kind) (member (codes "b") (held 1) 1 ∷ member (codes "v") (held 15) 2 ∷ [])

-- the number `a` of the outermost structure
abbrev pub outermost_a : Expr
outermost_a = path Outermost (codes "a" ∷ [])

-- struct label { unsigned long n; char *t; (n characters)  short a; char *z; (%0.a characters) }
abbrev pub label : Structure
label =
    struct (codes "label")
    (field (codes "n") (ty.Num (scalar.Int W8 false)) ∷ field (codes "t") (ty.Str (Some own_n)) ∷ field (codes "a") (ty.Num (scalar.Int W2 true))
    ∷ field (codes "z") (ty.Str (Some outermost_a)) ∷ [])

-- struct twin { struct base b; struct base c; char *t; (b.kind characters)  short a; struct label each[2]; }
abbrev pub twin : Structure
twin =
    struct (codes "twin")
    (field (codes "b") (held 1) ∷ field (codes "c") (held 1) ∷ field (codes "t") (ty.Str (Some own_kind)) ∷ field (codes "a") (ty.Num (scalar.Int W2 true))
    ∷ field (codes "each") (ty.Arr 2 (held 17)) ∷ [])

-- the number by which the member of a union is chosen that begins with `wide`
abbrev pub wide_kind : Expr
wide_kind = path Here (codes "w" ∷ codes "b" ∷ codes "kind" ∷ [])

-- union lone { struct wide w; (tag 1) }, chosen by %h.w.b.kind
abbrev pub lone : Structure
lone = union (codes "lone") (Some wide_kind) (member (codes "w") (held 2) 1 ∷ [])

abbrev pub structures : List Structure
structures = item ∷ base ∷ wide ∷ form ∷ pay ∷ cell ∷ vec ∷ hold ∷ duo ∷ two ∷ vecb ∷ any ∷ rest ∷ big ∷ bigv ∷ kindv ∷ ever ∷ label ∷ twin ∷ lone ∷ []

abbrev pub root : List ℕ → Ty → Root
root name type = record { name = name; ty = type; deletable = false }

-- int n; struct item **all; (n of them)  struct cell one;
abbrev pub roots : List Root
roots =
    root (codes "n") int ∷ root (codes "all") (ty.Ptr (Some (target.Pointers (node 0))) (kind.Length (expr.Root 0)) false)
    ∷ root (codes "one") (held 5) ∷ []

-- the whole program
abbrev pub sample : Program
sample = record { structures = structures; roots = roots; caches = []; words = [] }

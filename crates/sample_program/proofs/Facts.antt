-- What the fields of each structure of the sample hold, and which structures end in an array with a length.
use Rattle.std.proofs.Common.{◌≡◌, ℕ, Bool, true, false, ◌||◌, ◌==◌, if◌then◌else◌, [], ◌∷◌, ap, ◌∙◌}
use Rattle.std.specs.Prelude.{Option, Some, None, is_some, All, codes}
use Rattle.std.specs.Str.{bytes_eq}
use Rattle.std.proofs.lemmas.List.Elements.{All-from_recursion}
use Rattle.gt_types.specs.declared.types.TypeId.{TypeId}
use Rattle.gt_types.specs.declared.types.Width.TheVariants.{W1, W2, W4, W8}
use Rattle.gt_types.specs.declared.types.Scalar.TheVariants as scalar
use Rattle.gt_types.specs.declared.types.Target.TheVariants as target
use Rattle.gt_types.specs.declared.types.PtrKind.TheVariants as kind
use Rattle.gt_types.specs.declared.types.Ty.{Ty}
use Rattle.gt_types.specs.declared.types.Ty.TheVariants as ty
use Rattle.gt_types.specs.declared.program.Field.{Field}
use Rattle.gt_types.specs.declared.program.Structure.{Structure}
use Rattle.gt_types.specs.Contains.{itself, held_by}
use Rattle.gt_types.specs.Tails.{tail_of}
use Rattle.sample_program.specs.Sample.{structures, item, base, wide, form, pay, cell, vec, hold, duo, two, vecb, any, rest, big, bigv, kindv, ever, label, twin, lone, node, path, own_kind, own_len, own_n, own_num, outer_num, outermost_a}
use Rattle.gt_types.specs.declared.expressions.Base.TheVariants.{Here, Outer}
use Rattle.sample_program.proofs.Lists.{AllFrom}
use Rattle.sample_program.proofs.Types.{IsFlat, flat-num, flat-bits, flat-opaque, flat-str, flat-ptr, flat-node, inner-arr, inner-tail, no_tail-arr, tail-tail}

-- the structure that a type is
abbrev is_held : Ty → Option TypeId
is_held (ty.Node i desc) = Some i
is_held type = None

-- the structure that a field holds: in an array there are only labels, in the field of this name
abbrev pub held_of : Field → Option TypeId
held_of f = if bytes_eq f.name (codes "each") then Some (node 17) else is_held f.ty

abbrev pub HoldsAsTold : Field → Type 0
HoldsAsTold f = held_by f.ty ≡ held_of f

held-flat : (type : Ty) → IsFlat type → held_by type ≡ itself type
held-flat type flat = ap itself flat.inner

abbrev pub ends_in_tail : ℕ → Bool
ends_in_tail i = (i == 6) || (i == 10) || (i == 14) || (i == 15)

pub record IsTold (i : ℕ) (s : Structure) : Type 0 where
  pub held : All HoldsAsTold s.fields
  pub tail : is_some (tail_of s.fields) ≡ ends_in_tail i

told-item : IsTold 0 item
told-item = record {
  held = All-from_recursion HoldsAsTold item.fields
      (held-flat (ty.Num (scalar.Int W4 true)) (flat-num (scalar.Int W4 true)), tt);
  tail = ap is_some (flat-num (scalar.Int W4 true)).no_tail;
}

told-base : IsTold 1 base
told-base = record {
  held = All-from_recursion HoldsAsTold base.fields (
    held-flat (ty.Num (scalar.Int W2 true)) (flat-num (scalar.Int W2 true)),
    (held-flat (ty.Ptr (Some (target.Node (node 0))) kind.Plain false) (flat-ptr (Some (target.Node (node 0))) kind.Plain false), tt),
  );
  tail = ap is_some (flat-ptr (Some (target.Node (node 0))) kind.Plain false).no_tail;
}

told-wide : IsTold 2 wide
told-wide = record {
  held = All-from_recursion HoldsAsTold wide.fields (
    held-flat (ty.Node (node 1) None) (flat-node (node 1) None),
    (
      held-flat (ty.Num (scalar.Int W8 true)) (flat-num (scalar.Int W8 true)),
      (held-flat (ty.Ptr (Some (target.Node (node 0))) kind.Plain false) (flat-ptr (Some (target.Node (node 0))) kind.Plain false), tt),
    ),
  );
  tail = ap is_some (flat-ptr (Some (target.Node (node 0))) kind.Plain false).no_tail;
}

told-form : IsTold 3 form
told-form = record {
  held = All-from_recursion HoldsAsTold form.fields (
    held-flat (ty.Node (node 1) None) (flat-node (node 1) None),
    (held-flat (ty.Node (node 2) None) (flat-node (node 2) None), tt),
  );
  tail = ap is_some (flat-node (node 2) None).no_tail;
}

told-pay : IsTold 4 pay
told-pay = record {
  held = All-from_recursion HoldsAsTold pay.fields (
    held-flat (ty.Num (scalar.Int W8 true)) (flat-num (scalar.Int W8 true)),
    (held-flat (ty.Ptr (Some (target.Node (node 0))) kind.Plain false) (flat-ptr (Some (target.Node (node 0))) kind.Plain false), tt),
  );
  tail = ap is_some (flat-ptr (Some (target.Node (node 0))) kind.Plain false).no_tail;
}

told-cell : IsTold 5 cell
told-cell = record {
  held = All-from_recursion HoldsAsTold cell.fields (
    held-flat (ty.Num (scalar.Int W1 false)) (flat-num (scalar.Int W1 false)),
    (
      held-flat (ty.Node (node 4) (Some (path Outer (codes "sel" ∷ [])))) (flat-node (node 4) (Some (path Outer (codes "sel" ∷ [])))),
      (
        held-flat (ty.Node (node 3) (Some own_kind)) (flat-node (node 3) (Some own_kind)),
        (
          held-flat (ty.Bits (scalar.Int W4 false) 3) (flat-bits (scalar.Int W4 false) 3),
          (
            held-flat (ty.Bits (scalar.Int W4 true) 5) (flat-bits (scalar.Int W4 true) 5),
            (
              held-flat (ty.Num scalar.Bool) (flat-num scalar.Bool),
              (held-flat (ty.Opaque 8 8) (flat-opaque 8 8), tt),
            ),
          ),
        ),
      ),
    ),
  );
  tail = ap is_some (flat-opaque 8 8).no_tail;
}

told-vec : IsTold 6 vec
told-vec = record {
  held = All-from_recursion HoldsAsTold vec.fields (
    held-flat (ty.Num (scalar.Int W4 true)) (flat-num (scalar.Int W4 true)),
    (ap itself (inner-tail (path Here (codes "num" ∷ [])) (ty.Ptr (Some (target.Node (node 0))) kind.Plain false)) ∙ held-flat (ty.Ptr (Some (target.Node (node 0))) kind.Plain false) (flat-ptr (Some (target.Node (node 0))) kind.Plain false), tt),
  );
  tail = ap is_some (tail-tail (path Here (codes "num" ∷ [])) (ty.Ptr (Some (target.Node (node 0))) kind.Plain false));
}

told-hold : IsTold 7 hold
told-hold = record {
  held = All-from_recursion HoldsAsTold hold.fields (
    held-flat (ty.Num (scalar.Int W4 true)) (flat-num (scalar.Int W4 true)),
    (
      held-flat (ty.Ptr (Some (target.Node (node 0))) (kind.Length own_len) false) (flat-ptr (Some (target.Node (node 0))) (kind.Length own_len) false),
      (
        held-flat (ty.Str None) (flat-str None),
        (
          held-flat (ty.Str (Some own_len)) (flat-str (Some own_len)),
          (
            held-flat (ty.Ptr None kind.Atomic false) (flat-ptr None kind.Atomic false),
            (
              ap itself (inner-arr 2 (ty.Arr 3 (ty.Num (scalar.Int W2 true))) ∙ inner-arr 3 (ty.Num (scalar.Int W2 true))) ∙ held-flat (ty.Num (scalar.Int W2 true)) (flat-num (scalar.Int W2 true)),
              (held-flat (ty.Opaque 4 4) (flat-opaque 4 4), tt),
            ),
          ),
        ),
      ),
    ),
  );
  tail = ap is_some (flat-opaque 4 4).no_tail;
}

told-duo : IsTold 8 duo
told-duo = record {
  held = All-from_recursion HoldsAsTold duo.fields (
    held-flat (ty.Node (node 5) None) (flat-node (node 5) None),
    (held-flat (ty.Num (scalar.Int W8 true)) (flat-num (scalar.Int W8 true)), tt),
  );
  tail = ap is_some (flat-num (scalar.Int W8 true)).no_tail;
}

told-two : IsTold 9 two
told-two = record {
  held = All-from_recursion HoldsAsTold two.fields (
    held-flat (ty.Num (scalar.Int W4 true)) (flat-num (scalar.Int W4 true)),
    (held-flat (ty.Node (node 8) (Some (path Outer (codes "tag" ∷ [])))) (flat-node (node 8) (Some (path Outer (codes "tag" ∷ [])))), tt),
  );
  tail = ap is_some (flat-node (node 8) (Some (path Outer (codes "tag" ∷ [])))).no_tail;
}

told-vecb : IsTold 10 vecb
told-vecb = record {
  held = All-from_recursion HoldsAsTold vecb.fields (
    held-flat (ty.Node (node 1) None) (flat-node (node 1) None),
    (
      held-flat (ty.Num (scalar.Int W4 true)) (flat-num (scalar.Int W4 true)),
      (ap itself (inner-tail (path Here (codes "num" ∷ [])) (ty.Num (scalar.Int W2 true))) ∙ held-flat (ty.Num (scalar.Int W2 true)) (flat-num (scalar.Int W2 true)), tt),
    ),
  );
  tail = ap is_some (tail-tail (path Here (codes "num" ∷ [])) (ty.Num (scalar.Int W2 true)));
}

told-any : IsTold 11 any
told-any = record {
  held = All-from_recursion HoldsAsTold any.fields (
    held-flat (ty.Node (node 1) None) (flat-node (node 1) None),
    (held-flat (ty.Node (node 10) None) (flat-node (node 10) None), tt),
  );
  tail = ap is_some (flat-node (node 10) None).no_tail;
}

told-rest : IsTold 12 rest
told-rest = record {
  held = All-from_recursion HoldsAsTold rest.fields (held-flat (ty.Num (scalar.Int W8 true)) (flat-num (scalar.Int W8 true)), (held-flat (ty.Num (scalar.Int W4 true)) (flat-num (scalar.Int W4 true)), (held-flat (ty.Ptr (Some (target.Node (node 0))) kind.Plain false) (flat-ptr (Some (target.Node (node 0))) kind.Plain false), tt)));
  tail = ap is_some (flat-ptr (Some (target.Node (node 0))) kind.Plain false).no_tail;
}

told-big : IsTold 13 big
told-big = record {
  held = All-from_recursion HoldsAsTold big.fields (held-flat (ty.Num (scalar.Int W8 false)) (flat-num (scalar.Int W8 false)), (held-flat (ty.Node (node 4) (Some outer_num)) (flat-node (node 4) (Some outer_num)), (held-flat (ty.Node (node 12) (Some outer_num)) (flat-node (node 12) (Some outer_num)), (held-flat (ty.Ptr (Some (target.Node (node 0))) (kind.Length own_num) false) (flat-ptr (Some (target.Node (node 0))) (kind.Length own_num) false), (held-flat (ty.Num (scalar.Int W1 true)) (flat-num (scalar.Int W1 true)), (held-flat (ty.Num (scalar.Int W2 false)) (flat-num (scalar.Int W2 false)), (held-flat (ty.Num (scalar.Int W4 false)) (flat-num (scalar.Int W4 false)), (held-flat (ty.Bits (scalar.Int W4 false) 12) (flat-bits (scalar.Int W4 false) 12), (held-flat (ty.Bits (scalar.Int W4 true) 15) (flat-bits (scalar.Int W4 true) 15), (held-flat (ty.Ptr None kind.Undef false) (flat-ptr None kind.Undef false), tt))))))))));
  tail = ap is_some (flat-ptr None kind.Undef false).no_tail;
}

told-bigv : IsTold 14 bigv
told-bigv = record {
  held = All-from_recursion HoldsAsTold bigv.fields (held-flat (ty.Num (scalar.Int W8 false)) (flat-num (scalar.Int W8 false)), ((ap itself (inner-tail own_n (ty.Num (scalar.Int W2 true))) ∙ held-flat (ty.Num (scalar.Int W2 true)) (flat-num (scalar.Int W2 true))), tt));
  tail = ap is_some (tail-tail own_n (ty.Num (scalar.Int W2 true)));
}

told-kindv : IsTold 15 kindv
told-kindv = record {
  held = All-from_recursion HoldsAsTold kindv.fields (held-flat (ty.Node (node 1) None) (flat-node (node 1) None), ((ap itself (inner-tail own_kind (ty.Num (scalar.Int W2 true))) ∙ held-flat (ty.Num (scalar.Int W2 true)) (flat-num (scalar.Int W2 true))), tt));
  tail = ap is_some (tail-tail own_kind (ty.Num (scalar.Int W2 true)));
}

told-ever : IsTold 16 ever
told-ever = record {
  held = All-from_recursion HoldsAsTold ever.fields (held-flat (ty.Node (node 1) None) (flat-node (node 1) None), (held-flat (ty.Node (node 15) None) (flat-node (node 15) None), tt));
  tail = ap is_some (flat-node (node 15) None).no_tail;
}

told-label : IsTold 17 label
told-label = record {
  held = All-from_recursion HoldsAsTold label.fields (held-flat (ty.Num (scalar.Int W8 false)) (flat-num (scalar.Int W8 false)), (held-flat (ty.Str (Some own_n)) (flat-str (Some own_n)), (held-flat (ty.Num (scalar.Int W2 true)) (flat-num (scalar.Int W2 true)), (held-flat (ty.Str (Some outermost_a)) (flat-str (Some outermost_a)), tt))));
  tail = ap is_some (flat-str (Some outermost_a)).no_tail;
}

told-twin : IsTold 18 twin
told-twin = record {
  held = All-from_recursion HoldsAsTold twin.fields (
    held-flat (ty.Node (node 1) None) (flat-node (node 1) None),
    (
      held-flat (ty.Node (node 1) None) (flat-node (node 1) None),
      (
        held-flat (ty.Str (Some own_kind)) (flat-str (Some own_kind)),
        (
          held-flat (ty.Num (scalar.Int W2 true)) (flat-num (scalar.Int W2 true)),
          (ap itself (inner-arr 2 (ty.Node (node 17) None)) ∙ held-flat (ty.Node (node 17) None) (flat-node (node 17) None), tt),
        ),
      ),
    ),
  );
  tail = ap is_some (no_tail-arr 2 (ty.Node (node 17) None));
}

told-lone : IsTold 19 lone
told-lone = record {
  held = All-from_recursion HoldsAsTold lone.fields (held-flat (ty.Node (node 2) None) (flat-node (node 2) None), tt);
  tail = ap is_some (flat-node (node 2) None).no_tail;
}

pub all_told : AllFrom IsTold 0 structures
all_told = (told-item, (told-base, (told-wide, (told-form, (told-pay, (told-cell, (told-vec, (told-hold, (told-duo, (told-two, (told-vecb, (told-any, (told-rest, (told-big, (told-bigv, (told-kindv, (told-ever, (told-label, (told-twin, (told-lone, tt))))))))))))))))))))

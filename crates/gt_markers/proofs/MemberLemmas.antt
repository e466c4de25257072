-- The fields of a structure so far.
use Rattle.std.proofs.Common.{◌≡◌, ◌∙◌, ℕ, ℤ, Bool, true, false, List, [], ◌∷◌, ◌++◌, Option, refl, sym, ap}
use Rattle.std.specs.Prelude.{◌||◌, ◌&&◌, codes, OnOk, Result, Ok, Err}
use Rattle.std.specs.List.{list_any}
use Rattle.std.proofs.lemmas.List.Folds.{list_any-append}
use Rattle.gt_types.specs.declared.faults.Fault.{Fault}
use Rattle.gt_items.specs.declared.items.RawOption.{RawOption}
use Rattle.gt_drafts.specs.declared.draft.Draft.{Draft}
use Rattle.gt_drafts.specs.declared.draft.DraftField.{DraftField}
use Rattle.gt_drafts.specs.Options.{has_option}
use Rattle.gt_markers.specs.declared.members.Members.{Members}
use Rattle.gt_drafts.specs.FirstFaults.{first_from}
use Rattle.gt_markers.specs.MarkerFaults.{has_tag, is_default, repeated_fault, same_tag, tag_value}
use Rattle.gt_markers.specs.Members.{holds_tag, AreMembers}

or_false : (a : Bool) → (a || false) ≡ a
or_false true = refl
or_false false = refl

-- one more item that is so or not
any_added : {A : Type 0} (p : A → Bool) (xs : List A) (x : A) (before after : Bool) → before ≡ list_any p xs → after ≡ (before || p x) → after ≡ list_any p (xs ++ x ∷ [])
any_added p xs x before after h k =
    k ∙ ap (λ (b : Bool). b || p x) h ∙ ap (λ (b : Bool). list_any p xs || b) (sym (or_false (p x))) ∙ sym (list_any-append p xs (x ∷ []))

-- one more field
pub one_added : (draft : Draft) (fields : List DraftField) (f : DraftField) (options : List RawOption) (tag : Option ℤ) (named : Bool) (before after : Members)
    → AreMembers draft fields before → f.options ≡ options → tag ≡ tag_value draft options → named ≡ has_option (codes "default") options
    → ((other : Option ℤ) → holds_tag after other ≡ (holds_tag before other || same_tag other tag)) → after.has_default ≡ (before.has_default || named)
    → AreMembers draft (fields ++ f ∷ []) after
one_added draft fields f options tag named before after are items tagged there tags default =
    let of_field : tag ≡ tag_value draft f.options = tagged ∙ ap (tag_value draft) (sym items) in
    record {
      tags = λ other.
          any_added (has_tag draft other) fields f (holds_tag before other) (holds_tag after other) (are.tags other)
          (tags other ∙ ap (λ (t : Option ℤ). holds_tag before other || same_tag other t) of_field);
      default =
          any_added is_default fields f before.has_default after.has_default are.default
          (default ∙ ap (λ (b : Bool). before.has_default || b) (there ∙ ap (has_option (codes "default")) (sym items)));
    }

-- what is repeated in a union, and in no other structure
pub repeated_in : (in_union held any repeated : Bool) → in_union ≡ true → held ≡ any → repeated ≡ held → repeated ≡ (in_union && any)
repeated_in in_union held any repeated is h k = k ∙ h ∙ ap (λ (b : Bool). b && any) (sym is)

pub not_repeated : (in_union any repeated : Bool) → in_union ≡ false → repeated ≡ false → repeated ≡ (in_union && any)
not_repeated in_union any repeated is k = k ∙ ap (λ (b : Bool). b && any) (sym is)

-- what follows where there is an answer
pub on_ok : {X E : Type 0} (r : Result X E) (P Q : Type 0) → (P → Q) → OnOk r P → OnOk r Q
on_ok (Ok x) P Q f h = f h
on_ok (Err e) P Q f h = h

pub first_from_repeated : (e e1 : Option Fault) (repeated named : Bool) (file : ℕ) (option : Option RawOption)
    → e1 ≡ first_from e (repeated_fault repeated file option) → repeated ≡ named → e1 ≡ first_from e (repeated_fault named file option)
first_from_repeated e e1 repeated named file option h same = h ∙ ap (λ (b : Bool). first_from e (repeated_fault b file option)) same

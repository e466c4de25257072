-- The faults of parts, by what was looked for.
use Rattle.std.proofs.Common.{◌≡◌, ◌∙◌, ◌⊎◌, inl, inr, ℕ, Bool, true, false, List, Option, Some, None, option_map, refl, sym, ap, subst}
use Rattle.std.specs.Prelude.{codes, is_some, IsSome, All}
use Rattle.std.specs.List.{list_all}
use Rattle.std.specs.Bool.{Decides}
use Rattle.std.proofs.lemmas.Bool.{false≢true}
use Rattle.std.proofs.lemmas.Bool.Decides.{Decides-by_and, Decides-like}
use Rattle.std.proofs.lemmas.Option.{none-some, same_Some}
use Rattle.gt_types.specs.declared.faults.Fault.{Fault}
use Rattle.gt_types.specs.declared.expressions.Expr.{Expr}
use Rattle.gt_types.specs.declared.types.TypeId.{TypeId}
use Rattle.gt_types.specs.declared.program.Structure.{Structure}
use Rattle.gt_types.specs.declared.program.Program.{Program}
use Rattle.gt_types.specs.Paths.{LeadsToOwnPointer}
use Rattle.gt_expr.specs.declared.raw.RawExpr.{RawExpr}
use Rattle.gt_items.specs.declared.items.Parameter.{Parameter}
use Rattle.gt_items.specs.declared.items.Parameter.TheVariants.{Expression}
use Rattle.gt_items.specs.declared.items.RawOption.{RawOption}
use Rattle.gt_drafts.specs.declared.draft.Draft.{Draft}
use Rattle.gt_drafts.specs.declared.draft.DraftStructure.{DraftStructure}
use Rattle.gt_drafts.specs.FirstFaults.{fault_if, first_from}
use Rattle.gt_markers.specs.declared.TheConstants.{BAD_PATH, CHAIN_NOT_OWN_POINTER}
use Rattle.gt_markers.specs.Expressions.{Names as NamesOf, names_in, with_names}
use Rattle.gt_markers.specs.NameScopes.{are_named}
use Rattle.gt_markers.specs.Options.{kind_of, option_named}
use Rattle.gt_markers.specs.Typing.{node}
use Rattle.gt_declare.specs.Programs.{chain_kind, path_places}
use Rattle.gt_rules.specs.declared.purposes.Purpose.TheVariants.{Own}
use Rattle.gt_rules.specs.Faults.{IsGood, fault}
use Rattle.gt_rules.specs.Parts.{ChainFault, FaultIf, IsFirstWith, LeadsBack, Names, OfHeld, OptionFault, Serves, UnionDescFault, read_option}
use Rattle.gt_rules.proofs.FirstLemmas.{first_if, first_of_none, first_of_same}

-- ---- options

-- no option of the name is read
pub no_option : (of_field : Bool) (options : List RawOption) (name : List ℕ) (holds : RawOption → Type 0) (number file : ℕ) (e : Option Fault) → read_option of_field name options ≡ None
    → IsFirstWith e (OptionFault of_field options name holds number file) e
no_option of_field options name holds number file e none = first_of_none e (OptionFault of_field options name holds number file) (λ f p. none-some p.0 (sym none ∙ p.1))

-- an option of the name is read, and was tested
pub one_option : (of_field : Bool) (options : List RawOption) (name : List ℕ) (holds : RawOption → Type 0) (number file : ℕ) (o : RawOption) (b : Bool) (e r : Option Fault) → read_option of_field name options ≡ Some o
    → r ≡ first_from e (fault_if b number file o.name.at) → Decides b (holds o) → IsFirstWith e (OptionFault of_field options name holds number file) r
one_option of_field options name holds number file o b e r at is decides =
    first_of_same e r (FaultIf (holds o) number file o.name.at) (OptionFault of_field options name holds number file) (λ f p. (o, at, p.0, p.1)) (λ f p. back f p.0 p.1 p.2 p.3)
    (first_if e r b (holds o) number file o.name.at is decides)
  where
    back : (f : Fault) (other : RawOption) → read_option of_field name options ≡ Some other → holds other → f ≡ fault number file other.name.at → FaultIf (holds o) number file o.name.at f
    back f other there h says =
        let same : other ≡ o = same_Some other o (sym there ∙ at) in
        (subst holds same h, says ∙ ap (λ (x : RawOption). fault number file x.name.at) same)

-- ---- what is named

names_back : (found : Option ℕ) (holds : TypeId → Type 0) → Names (option_map node found) holds → (id : ℕ) × (found ≡ Some id) × holds (node id)
names_back None holds (id, is, h) = absurd (none-some id is)
names_back (Some k) holds (id, is, h) = (k, refl, subst holds (sym (same_Some (node k) id is)) h)

-- the same by the number of a structure
pub named_by_number : (found : Option ℕ) (named : Option TypeId) (holds : TypeId → Type 0) (b : Bool) → named ≡ option_map node found → Decides b (Names named holds)
    → Decides b ((id : ℕ) × (found ≡ Some id) × holds (node id))
named_by_number found named holds b is decides =
    Decides-like b (λ h. names_back found holds (subst (λ (o : Option TypeId). Names o holds) is h))
    (λ h. subst (λ (o : Option TypeId). Names o holds) (sym is) (node h.0, ap (option_map node) h.1, h.2)) decides

-- or something else is true
pub or_named_by_number : (A : Type 0) (found : Option ℕ) (named : Option TypeId) (holds : TypeId → Type 0) (b : Bool) → named ≡ option_map node found → Decides b (A ⊎ Names named holds)
    → Decides b (A ⊎ ((id : ℕ) × (found ≡ Some id) × holds (node id)))
or_named_by_number A found named holds b is decides = Decides-like b to back decides
  where
    to : A ⊎ Names named holds → A ⊎ ((id : ℕ) × (found ≡ Some id) × holds (node id))
    to (inl a) = inl a
    to (inr h) = inr (names_back found holds (subst (λ (o : Option TypeId). Names o holds) is h))

    back : A ⊎ ((id : ℕ) × (found ≡ Some id) × holds (node id)) → A ⊎ Names named holds
    back (inl a) = inl a
    back (inr h) = inr (subst (λ (o : Option TypeId). Names o holds) (sym is) (node h.0, ap (option_map node) h.1, h.2))

-- ---- what a type holds

pub nothing_held : (found : Option TypeId) (P : TypeId → Fault → Type 0) (e : Option Fault) → found ≡ None → IsFirstWith e (OfHeld found P) e
nothing_held found P e none = first_of_none e (OfHeld found P) (λ f p. none-some p.0 (sym none ∙ p.1))

pub one_held : (found : Option TypeId) (P : TypeId → Fault → Type 0) (held : TypeId) (e r : Option Fault) → found ≡ Some held → IsFirstWith e (P held) r → IsFirstWith e (OfHeld found P) r
one_held found P held e r is first =
    first_of_same e r (P held) (OfHeld found P) (λ f p. (held, is, p)) (λ f p. subst (λ (h : TypeId). P h f) (same_Some p.0 held (sym p.1 ∙ is)) p.2) first

-- ---- the `desc` of a union itself

-- a structure that has no such option
pub no_union_desc : (draft : Draft) (program : Program) (id : TypeId) (ds : DraftStructure) (e : Option Fault) → (ds.is_union ≡ false) ⊎ (option_named (codes "desc") ds.options ≡ None)
    → IsFirstWith e (UnionDescFault draft program id ds) e
no_union_desc draft program id ds e (inl struct) = first_of_none e (UnionDescFault draft program id ds) (λ f p. false≢true (sym struct ∙ p.1))
no_union_desc draft program id ds e (inr none) = first_of_none e (UnionDescFault draft program id ds) (λ f p. none-some p.0 (sym none ∙ p.2))

pub one_union_desc : (draft : Draft) (program : Program) (id : TypeId) (ds : DraftStructure) (o : RawOption) (b : Bool) (e r : Option Fault) → ds.is_union ≡ true
    → option_named (codes "desc") ds.options ≡ Some o → r ≡ first_from e (fault_if b BAD_PATH ds.file o.name.at) → Decides b (¬ Serves draft program id Own o.parameter)
    → IsFirstWith e (UnionDescFault draft program id ds) r
one_union_desc draft program id ds o b e r union at is decides =
    first_of_same e r (FaultIf (¬ Serves draft program id Own o.parameter) BAD_PATH ds.file o.name.at) (UnionDescFault draft program id ds)
    (λ f p. (o, union, at, p.0, p.1)) (λ f p. back f p.0 p.2 p.3 p.4) (first_if e r b (¬ Serves draft program id Own o.parameter) BAD_PATH ds.file o.name.at is decides)
  where
    back : (f : Fault) (other : RawOption) → option_named (codes "desc") ds.options ≡ Some other → ¬ Serves draft program id Own other.parameter
        → f ≡ fault BAD_PATH ds.file other.name.at → FaultIf (¬ Serves draft program id Own o.parameter) BAD_PATH ds.file o.name.at f
    back f other there bad says =
        let same : other ≡ o = same_Some other o (sym there ∙ at) in
        (subst (λ (x : RawOption). ¬ Serves draft program id Own x.parameter) same bad, says ∙ ap (λ (x : RawOption). fault BAD_PATH ds.file x.name.at) same)

-- ---- chains

pub no_chain : (program : Program) (id : TypeId) (file : ℕ) (o : RawOption) (e : Option Fault) → is_some (chain_kind (kind_of o.name.word)) ≡ false → IsFirstWith e (ChainFault program id file o) e
no_chain program id file o e is = first_of_none e (ChainFault program id file o) (λ f p. false≢true (sym is ∙ p.0.0))

pub one_chain : (program : Program) (id : TypeId) (file : ℕ) (o : RawOption) (b : Bool) (e r : Option Fault) → is_some (chain_kind (kind_of o.name.word)) ≡ true
    → r ≡ first_from e (fault_if b CHAIN_NOT_OWN_POINTER file o.name.at) → Decides b (¬ LeadsBack program id o.parameter) → IsFirstWith e (ChainFault program id file o) r
one_chain program id file o b e r is found decides =
    first_if e r b (IsSome (chain_kind (kind_of o.name.word)) × ¬ LeadsBack program id o.parameter) CHAIN_NOT_OWN_POINTER file o.name.at found
    (Decides-like b (λ bad. (is, bad)) (λ p. p.1) decides)

-- ---- expressions whose names stand for something

named_decides : (names : NamesOf) (raw : RawExpr) → Decides (are_named names raw) (All (λ word. IsSome (names word)) (names_in raw))
named_decides names raw =
    Decides-by_and (λ word. is_some (names word)) (λ word. IsSome (names word)) (list_all (λ word. is_some (names word))) (λ word. (λ is. is, λ is. is)) refl (λ _ _. refl) (names_in raw)

same_expression : (a b : RawExpr) → Expression a ≡ Expression b → a ≡ b
same_expression a b same = cc

pub not_named : (names : NamesOf) (good : Expr → Type 0) (parameter : Parameter) (raw : RawExpr) → parameter ≡ Expression raw → are_named names raw ≡ false
    → Decides false (IsGood names good parameter)
not_named names good parameter raw is off = (λ yes_is. absurd (false≢true yes_is), λ fine. absurd (false≢true (sym off ∙ (named_decides names raw).1 (its_names fine))))
  where
    its_names : IsGood names good parameter → All (λ word. IsSome (names word)) (names_in raw)
    its_names fine = subst (λ (e : RawExpr). All (λ word. IsSome (names word)) (names_in e)) (same_expression fine.e raw (sym fine.expression ∙ is)) fine.named

pub good_named : (names : NamesOf) (good : Expr → Type 0) (parameter : Parameter) (raw : RawExpr) (b : Bool) → parameter ≡ Expression raw → are_named names raw ≡ true
    → Decides b (good (with_names names raw)) → Decides b (IsGood names good parameter)
good_named names good parameter raw b is named decides =
    Decides-like b (λ fine. record { e = raw; expression = is; named = (named_decides names raw).0 named; fits = fine })
    (λ fine. subst (λ (e : RawExpr). good (with_names names e)) (same_expression fine.e raw (sym fine.expression ∙ is)) fine.fits) decides

-- ---- where a chain leads

pub no_path : (program : Program) (id : TypeId) (parameter : Parameter) (structures : List Structure) → structures ≡ program.structures → path_places structures id parameter ≡ None
    → Decides false (LeadsBack program id parameter)
no_path program id parameter structures same none = (
  λ yes_is. absurd (false≢true yes_is),
  λ leads. absurd (none-some leads.0 (sym none ∙ ap (λ (ss : List Structure). path_places ss id parameter) same ∙ leads.1)),
)

pub one_path : (program : Program) (id : TypeId) (parameter : Parameter) (structures : List Structure) (path places : List ℕ) (b : Bool) → structures ≡ program.structures
    → path_places structures id parameter ≡ Some path → places ≡ path → Decides b (LeadsToOwnPointer program id places) → Decides b (LeadsBack program id parameter)
one_path program id parameter structures path places b same at is decides =
    let there : path_places program.structures id parameter ≡ Some path = ap (λ (ss : List Structure). path_places ss id parameter) (sym same) ∙ at in
    Decides-like b (λ leads. (path, there, subst (LeadsToOwnPointer program id) is leads))
    (λ leads. subst (LeadsToOwnPointer program id) (same_Some leads.0 path (sym leads.1 ∙ there) ∙ sym is) leads.2) decides

-- The chains of a program that a draft without faults declares.
use Rattle.std.proofs.Common.{◌≡◌, ◌≢◌, ◌∙◌, ℕ, Bool, true, false, cond, List, [], ◌∷◌, Option, Some, None, option_map, refl, sym, ap, subst}
use Rattle.std.specs.Prelude.{All, AllPairs, Contains, codes, find, is_some, slice_get, position}
use Rattle.std.specs.Str.{bytes_eq}
use Rattle.std.proofs.lemmas.List.Elements.{Contains-get_or}
use Rattle.std.proofs.lemmas.Option.{none-some, same_Some, slice_get-map}
use Rattle.std.proofs.lemmas.Slice.Eq.{bytes_eq-Decides}
use Rattle.gt_types.specs.declared.faults.Fault.{Fault}
use Rattle.gt_types.specs.declared.types.TypeId.{TypeId}
use Rattle.gt_types.specs.declared.program.Chain.{Chain}
use Rattle.gt_types.specs.declared.program.ChainKind.{ChainKind}
use Rattle.gt_types.specs.declared.program.ChainKind.TheVariants.{Next, Prev, Circular}
use Rattle.gt_types.specs.declared.program.Field.{Field}
use Rattle.gt_types.specs.declared.program.Structure.{Structure}
use Rattle.gt_types.specs.declared.program.Program.{Program}
use Rattle.gt_types.specs.Paths.{LeadsToOwnPointer}
use Rattle.gt_items.specs.declared.items.RawOption.{RawOption}
use Rattle.gt_drafts.specs.declared.draft.Draft.{Draft}
use Rattle.gt_drafts.specs.declared.draft.DraftStructure.{DraftStructure}
use Rattle.gt_layout.specs.declared.planes.Plane.{Plane}
use Rattle.gt_fields.specs.Places.{bind}
use Rattle.gt_markers.specs.declared.TheConstants.{CHAIN_NOT_OWN_POINTER}
use Rattle.gt_markers.specs.declared.kinds.OptionKind.{OptionKind}
use Rattle.gt_markers.specs.declared.kinds.OptionKind.TheVariants.{Skip, Length, Desc, Tag, Default, Cache, Deletable, MaybeUndef, ChainNext, ChainPrev, ChainCircular, Atomic, StringLength, VariableSize, ForUser, Reorder}
use Rattle.gt_markers.specs.Options.{kind_of, known_options}
use Rattle.gt_markers.specs.Sites.{at_structure, is_tag}
use Rattle.gt_declare.specs.Programs.{all_unchained, chain_kind, chain_of, own_path, path_places, places_on, program_by, structure_in, unchained}
use Rattle.gt_rules.specs.Faults.{HasProgramFault, chain, fault}
use Rattle.gt_settled.proofs.Stable.{Stable}
use Rattle.gt_settled.proofs.Lists.{all_filtered, pairs_filtered}
use Rattle.gt_settled.proofs.Made.{IsMade, structure_at, structure_drafted}
use Rattle.gt_settled.proofs.Markers.{AreTwo}

-- ---- the path of a chain by structures without chains and with them

-- two structures have the same fields, where they are there
abbrev Alike : List Structure → List Structure → Type 0
Alike a b = (k : ℕ) → option_map (λ s. s.fields) (slice_get a k) ≡ option_map (λ s. s.fields) (slice_get b k)

in_fields : {Y : Type 0} (f : List Field → Option Y) (a b : Option Structure) → option_map (λ s. s.fields) a ≡ option_map (λ s. s.fields) b → bind a (λ s. f s.fields) ≡ bind b (λ s. f s.fields)
in_fields f a b same = from a ∙ ap (λ (o : Option (List Field)). bind o f) same ∙ sym (from b)
  where
    from : (o : Option Structure) → bind o (λ s. f s.fields) ≡ bind (option_map (λ s. s.fields) o) f
    from None = refl
    from (Some s) = refl

abbrev first_named : List ℕ → List Field → Option ℕ
first_named name fields = position (λ f. bytes_eq f.name name) fields

bind_same : {A B : Type 0} (o : Option A) (f g : A → Option B) → ((x : A) → f x ≡ g x) → bind o f ≡ bind o g
bind_same None f g same = refl
bind_same (Some x) f g same = same x

same_places : (a b : List Structure) → Alike a b → (path : List (List ℕ)) (from : TypeId) → places_on a from path ≡ places_on b from path
unfolding places_on
same_places a b alike [] from = refl
same_places a b alike (name ∷ []) from =
    in_fields (λ (fs : List Field). option_map (λ i. i ∷ []) (first_named name fs)) (slice_get a from.0) (slice_get b from.0) (alike from.0)
same_places a b alike (name ∷ next ∷ names) from =
    in_fields (λ (fs : List Field). bind (first_named name fs) (λ i. bind (slice_get fs i) (λ f. bind (structure_in f.ty) (λ inner. option_map (λ places. i ∷ places) (places_on a inner (next ∷ names))))))
    (slice_get a from.0) (slice_get b from.0) (alike from.0)
    ∙ bind_same (slice_get b from.0) _ _ (λ s. bind_same (first_named name s.fields) _ _ (λ i. bind_same (slice_get s.fields i) _ _ (λ f. bind_same (structure_in f.ty) _ _
    (λ inner. ap (λ (o : Option (List ℕ)). option_map (λ places. i ∷ places) o) (same_places a b alike (next ∷ names) inner)))))

-- ---- kinds of chains

-- which chain an option is, and by which kind of option
chain_by : (kind : Option OptionKind) (c : ChainKind) → chain_kind kind ≡ Some c → (k : OptionKind) × (kind ≡ Some k) × (is_tag k ≡ false)
chain_by (Some ChainNext) c e = (ChainNext, refl, refl)
chain_by (Some ChainPrev) c e = (ChainPrev, refl, refl)
chain_by (Some ChainCircular) c e = (ChainCircular, refl, refl)
chain_by other c e = absurd (none-some c e)

-- a name of a chain option
record IsChain (name : List ℕ) (c : ChainKind) : Type 0 where
  kind : OptionKind
  known : kind_of name ≡ Some kind
  gives : chain_kind (Some kind) ≡ Some c
  not_tag : is_tag kind ≡ false

is_chain : (name : List ℕ) (c : ChainKind) → chain_kind (kind_of name) ≡ Some c → IsChain name c
is_chain name c e =
    let by = chain_by (kind_of name) c e in
    record { kind = by.0; known = by.1; gives = sym (ap chain_kind by.1) ∙ e; not_tag = by.2 }

-- the name of an option
abbrev pub name_of : OptionKind → List ℕ
name_of Skip = codes "skip"
name_of Length = codes "length"
name_of Desc = codes "desc"
name_of Tag = codes "tag"
name_of Default = codes "default"
name_of Cache = codes "cache"
name_of Deletable = codes "deletable"
name_of MaybeUndef = codes "maybe_undef"
name_of ChainNext = codes "chain_next"
name_of ChainPrev = codes "chain_prev"
name_of ChainCircular = codes "chain_circular"
name_of Atomic = codes "atomic"
name_of StringLength = codes "string_length"
name_of VariableSize = codes "variable_size"
name_of ForUser = codes "for_user"
name_of Reorder = codes "reorder"

abbrev Agree : List (List ℕ × OptionKind) → Type 0
Agree [] = Unit {0}
Agree (p ∷ ps) = (p.0 ≡ name_of p.1) × Agree ps

agree_by : (name : List ℕ) (k : OptionKind) (p : List ℕ × OptionKind) (ps : List (List ℕ × OptionKind)) (b : Bool) → bytes_eq name p.0 ≡ b → p.0 ≡ name_of p.1
    → option_map (λ known. known.1) (cond b (Some p) (find (λ known. bytes_eq name known.0) ps)) ≡ Some k
    → (option_map (λ known. known.1) (find (λ known. bytes_eq name known.0) ps) ≡ Some k → name ≡ name_of k) → name ≡ name_of k
agree_by name k p ps true same named e rest = (bytes_eq-Decides name p.0).0 same ∙ named ∙ ap name_of (same_Some p.1 k e)
agree_by name k p ps false same named e rest = rest e

find_agree : (name : List ℕ) (k : OptionKind) (table : List (List ℕ × OptionKind)) → Agree table → option_map (λ known. known.1) (find (λ known. bytes_eq name known.0) table) ≡ Some k → name ≡ name_of k
find_agree name k [] agree e = absurd (none-some k e)
find_agree name k (p ∷ ps) agree e = agree_by name k p ps (bytes_eq name p.0) refl agree.0 e (find_agree name k ps agree.1)

pub kind_name : (name : List ℕ) (k : OptionKind) → kind_of name ≡ Some k → name ≡ name_of k
kind_name name k e =
    find_agree name k known_options
    (refl, (refl, (refl, (refl, (refl, (refl, (refl, (refl, (refl, (refl, (refl, (refl, (refl, (refl, (refl, (refl, tt)))))))))))))))) e

same_kind : (j k : OptionKind) (c d : ChainKind) → chain_kind (Some j) ≡ Some c → chain_kind (Some k) ≡ Some d → c ≡ d → j ≡ k
same_kind j k c d a b e = back j c a ∙ ap kind_back e ∙ sym (back k d b)
  where
    kind_back : ChainKind → OptionKind
    kind_back Next = ChainNext
    kind_back Prev = ChainPrev
    kind_back Circular = ChainCircular

    back : (j : OptionKind) (c : ChainKind) → chain_kind (Some j) ≡ Some c → j ≡ kind_back c
    back ChainNext c e = ap kind_back (same_Some Next c e)
    back ChainPrev c e = ap kind_back (same_Some Prev c e)
    back ChainCircular c e = ap kind_back (same_Some Circular c e)
    back other c e = absurd (none-some c e)

-- ---- chains of options

record IsPartOf (structures : List Structure) (from : TypeId) (o : RawOption) (c : Chain) : Type 0 where
  kind : chain_kind (kind_of o.name.word) ≡ Some c.kind
  path : path_places structures from o.parameter ≡ Some c.path

chain_parts : (structures : List Structure) (from : TypeId) (o : RawOption) (c : Chain) → chain_of structures from o ≡ Some c → IsPartOf structures from o c
chain_parts structures from o c e = by (chain_kind (kind_of o.name.word)) (path_places structures from o.parameter) refl refl e
  where
    by : (kind : Option ChainKind) (path : Option (List ℕ)) → chain_kind (kind_of o.name.word) ≡ kind → path_places structures from o.parameter ≡ path
        → bind kind (λ k. option_map (λ p. let made : Chain = record { kind = k; path = p } in made) path) ≡ Some c → IsPartOf structures from o c
    by None path k p e = absurd (none-some c e)
    by (Some kind) None k p e = absurd (none-some c e)
    by (Some kind) (Some path) k p e =
        let made : Chain = record { kind = kind; path = path } in
        let same : made ≡ c = same_Some made c e in
        record { kind = k ∙ ap (λ (d : Chain). Some d.kind) same; path = p ∙ ap (λ (d : Chain). Some d.path) same }

apart : (structures : List Structure) (from : TypeId) (union : Bool) (options : List RawOption) (a o : RawOption) (c d : Chain) → AreTwo (at_structure union) options a o
    → chain_of structures from a ≡ Some c → chain_of structures from o ≡ Some d → c.kind ≢ d.kind
apart structures from union options a o c d two first second same =
    let p = chain_parts structures from a c first in
    let q = chain_parts structures from o d second in
    let i = is_chain a.name.word c.kind p.kind in
    let j = is_chain o.name.word d.kind q.kind in
    two j.kind j.known refl j.not_tag
    (kind_name a.name.word i.kind i.known ∙ ap name_of (same_kind i.kind j.kind c.kind d.kind i.gives j.gives same) ∙ sym (kind_name o.name.word j.kind j.known))

-- ---- the chains of a structure

module _ (draft : Draft) (planes : List Plane) (program : Program) (is : program ≡ program_by draft planes) where
  alike_by : (k : ℕ) (o : Option DraftStructure) (p : Option Structure) → slice_get draft.structures k ≡ o → slice_get program.structures k ≡ p
      → option_map (λ s. s.fields) (option_map (unchained draft planes) o) ≡ option_map (λ s. s.fields) p
  alike_by k None None e there = refl
  alike_by k None (Some s) e there = let made = structure_drafted draft planes program is k s there in absurd (none-some made.0 (sym e ∙ made.1.drafted))
  alike_by k (Some ds) None e there = let made = structure_at draft planes program is k ds e in absurd (none-some made.0 (sym there ∙ made.1))
  alike_by k (Some ds) (Some s) e there =
      let made = structure_at draft planes program is k ds e in
      let same : made.0 ≡ s = same_Some made.0 s (sym made.1 ∙ there) in
      ap (λ (t : Structure). Some t.fields) (sym made.2.same ∙ same)

  alike : (k : ℕ) → option_map (λ s. s.fields) (slice_get (all_unchained draft planes) k) ≡ option_map (λ s. s.fields) (slice_get program.structures k)
  alike k = ap (λ (o : Option Structure). option_map (λ s. s.fields) o) (slice_get-map (unchained draft planes) draft.structures k) ∙ alike_by k (slice_get draft.structures k) (slice_get program.structures k) refl refl

  path_same : (from : TypeId) (o : RawOption) → path_places (all_unchained draft planes) from o.parameter ≡ path_places program.structures from o.parameter
  path_same from o = bind_same (own_path o.parameter) _ _ (λ path. same_places (all_unchained draft planes) program.structures alike path from)

  pub chains_lead : ((f : Fault) → ¬ HasProgramFault draft program f) → ((node : TypeId) (places : List ℕ) → Stable (LeadsToOwnPointer program node places))
      → (id : TypeId) (ds : DraftStructure) (s : Structure) → IsMade draft planes id.0 ds s → All (λ c. LeadsToOwnPointer program id c.path) s.chains
  chains_lead faultless pointer id ds s made =
      subst (λ (t : Structure). All (λ (c : Chain). LeadsToOwnPointer program id c.path) t.chains) (sym made.same)
      (subst (λ (cs : List Chain). All (λ (c : Chain). LeadsToOwnPointer program id c.path) cs) (sym made.chained)
      (all_filtered (λ (o : RawOption). Contains ds.options o) (λ (c : Chain). LeadsToOwnPointer program id c.path) (chain_of (all_unchained draft planes) id) ds.options
      (λ o c inside e. one o c inside (chain_parts (all_unchained draft planes) id o c e)) (λ k d within. Contains-get_or ds.options k d within)))
    where
      one : (o : RawOption) (c : Chain) → Contains ds.options o → IsPartOf (all_unchained draft planes) id o c → LeadsToOwnPointer program id c.path
      one o c inside part = pointer id c.path (λ bad.
          faultless (fault CHAIN_NOT_OWN_POINTER ds.file o.name.at) (chain made.drafted inside (ap is_some part.kind)
          (λ path e leads. bad (subst (λ (p : List ℕ). LeadsToOwnPointer program id p) (same_Some path c.path (sym e ∙ sym (path_same id o) ∙ part.path)) leads))))

  pub kinds_differ : (id : TypeId) (ds : DraftStructure) (s : Structure) → IsMade draft planes id.0 ds s → AllPairs (AreTwo (at_structure ds.is_union) ds.options) ds.options
      → AllPairs (λ c d. c.kind ≢ d.kind) s.chains
  kinds_differ id ds s made two =
      subst (λ (t : Structure). AllPairs (λ (c d : Chain). c.kind ≢ d.kind) t.chains) (sym made.same)
      (subst (λ (cs : List Chain). AllPairs (λ (c d : Chain). c.kind ≢ d.kind) cs) (sym made.chained)
      (pairs_filtered (AreTwo (at_structure ds.is_union) ds.options) (λ (c d : Chain). c.kind ≢ d.kind) (chain_of (all_unchained draft planes) id) ds.options
      (λ a o c d r e f. apart (all_unchained draft planes) id ds.is_union ds.options a o c d r e f) two))

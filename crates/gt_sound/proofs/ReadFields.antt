-- What fields are read as is well made.
use Rattle.std.proofs.Common.{◌≡◌, ℕ, ◌≤◌, List, [], ◌∷◌, length, Option, Ok, refl, sym, arith}
use Rattle.std.specs.Prelude.{All}
use Rattle.std.proofs.lemmas.Bool.{true≢false}
use Rattle.std.proofs.lemmas.List.Elements.{All-nil, All-cons}
use Rattle.gt_search.specs.declared.lexeme.Lexeme.{Lexeme}
use Rattle.gt_search.specs.declared.lexeme.Lexeme.TheVariants as lexeme
use Rattle.gt_marked.specs.Outcome.{Outcome}
use Rattle.gt_expr.specs.declared.raw.RawExpr.{RawExpr}
use Rattle.gt_expr.specs.Expression.{IsExpression, expression_of}
use Rattle.gt_items.specs.declared.items.Declarator.{Declarator}
use Rattle.gt_items.specs.declared.items.RawField.{RawField}
use Rattle.gt_marked.specs.FieldGrammar.{Bounds, Bits, PlainDeclarator, ADeclarator, Declarators, Field, FieldsToBrace}
use Rattle.gt_sound.specs.WellMade.{IsWellMadeDeclarator, IsWellMadeField}
use Rattle.gt_sound.proofs.ReadMarkers.{AreNamed, Keeps, failed_keeps, unexpected_keeps, named_right, qualifiers_read, stars_read, maybe_marker_read, type_read}

abbrev pub AreAnyBounds : List (List ℕ) → Type 0
AreAnyBounds bounds = Unit {0}

abbrev pub AreAnyBits : Option (List ℕ) → Type 0
AreAnyBits bits = Unit {0}

abbrev pub AreDeclarators : List Declarator → Type 0
AreDeclarators ds = (1 ≤ length ds) × All IsWellMadeDeclarator ds

abbrev pub AreFields : List RawField → Type 0
AreFields fs = (1 ≤ length fs) × All IsWellMadeField fs

pub bounds_read : {ts : List Lexeme} {o : Outcome (List (List ℕ))} → Bounds ts o → AreNamed ts → Keeps AreAnyBounds o
bounds_read (Bounds.no_bound h1) named = (tt, named)
bounds_read (Bounds.bound {inside = inside} {ts = ts} b o p h1 h2) named = bounds_read h2 (named_right inside (lexeme.Close b p ∷ ts) named.1).1
bounds_read (Bounds.not_closed o h1) named = tt
bounds_read (Bounds.in_more b o p why h1 h2) named = failed_keeps AreAnyBounds why

pub bits_read : {ts : List Lexeme} {o : Outcome (Option (List ℕ))} → Bits ts o → AreNamed ts → Keeps AreAnyBits o
bits_read (Bits.no_bits h1) named = (tt, named)
bits_read (Bits.bits {text = text} {rest = rest} c t h1 h2) named = (tt, named_right text (t ∷ rest) named.1)
bits_read (Bits.endless c h1) named = tt

module _ (law : (text : List ℕ) (t : RawExpr) → expression_of text ≡ Ok t → IsExpression text t) where
  pub plain_read : {ts : List Lexeme} {o : Outcome Declarator} → PlainDeclarator ts o → AreNamed ts → Keeps IsWellMadeDeclarator o
  plain_read (PlainDeclarator.plain n h1 h2 h3 h4 h5) named = let r = maybe_marker_read law h2 (stars_read h1 named) in let s = bounds_read h4 r.1.1 in let u = bits_read h5 s.1 in (record { name = r.1.0; options = r.0; no_bits = λ h. absurd (true≢false (sym h)) }, u.1)
  plain_read (PlainDeclarator.member_function n o h1 h2) named = tt
  plain_read (PlainDeclarator.in_marker why h1 h2) named = failed_keeps IsWellMadeDeclarator why
  plain_read (PlainDeclarator.in_bounds n why h1 h2 h3 h4) named = failed_keeps IsWellMadeDeclarator why
  plain_read (PlainDeclarator.in_bits n why h1 h2 h3 h4 h5) named = failed_keeps IsWellMadeDeclarator why
  plain_read (PlainDeclarator.no_name {rest = rest} h1 h2 h3) named = unexpected_keeps IsWellMadeDeclarator rest

  pub declarator_read : {ts : List Lexeme} {o : Outcome Declarator} → ADeclarator ts o → AreNamed ts → Keeps IsWellMadeDeclarator o
  declarator_read (ADeclarator.plain h1 h2) named = plain_read h2 named
  declarator_read (ADeclarator.function {inside = inside} {rest = rest} a s n c d e b h1 h2 h3) named = let r = maybe_marker_read law h2 (qualifiers_read h1 named.1.1) in (record { name = r.1.0; options = r.0; no_bits = λ h. refl }, (named_right inside (lexeme.Close b e ∷ rest) r.1.1.1.1).1)
  declarator_read (ADeclarator.in_marker a s why h1 h2) named = failed_keeps IsWellMadeDeclarator why
  declarator_read (ADeclarator.no_star {ts = ts} a h1) named = unexpected_keeps IsWellMadeDeclarator ts
  declarator_read (ADeclarator.no_name {rest = rest} a s h1 h2 h3) named = unexpected_keeps IsWellMadeDeclarator rest
  declarator_read (ADeclarator.not_closed {rest = rest} a s n h1 h2 h3) named = unexpected_keeps IsWellMadeDeclarator rest
  declarator_read (ADeclarator.no_arguments {rest = rest} a s n c h1 h2 h3) named = unexpected_keeps IsWellMadeDeclarator rest
  declarator_read (ADeclarator.arguments_not_closed a s n c d h1 h2 h3) named = tt

  pub declarators_read : {ts : List Lexeme} {o : Outcome (List Declarator)} → Declarators ts o → AreNamed ts → Keeps AreDeclarators o
  declarators_read (Declarators.last {d = d} s h1) named = let r = declarator_read h1 named in ((omega arith, All-cons IsWellMadeDeclarator d [] r.0 (All-nil IsWellMadeDeclarator)), r.1.1)
  declarators_read (Declarators.more {d = d} {ds = ds} c h1 h2) named = let r = declarator_read h1 named in let s = declarators_read h2 r.1.1 in ((omega arith, All-cons IsWellMadeDeclarator d ds r.0 s.0.1), s.1)
  declarators_read (Declarators.in_declarator why h1) named = failed_keeps AreDeclarators why
  declarators_read (Declarators.in_more c why h1 h2) named = failed_keeps AreDeclarators why
  declarators_read (Declarators.not_ended {rest = rest} h1 h2 h3) named = unexpected_keeps AreDeclarators rest

  pub field_read : {ts : List Lexeme} {o : Outcome RawField} → Field ts o → AreNamed ts → Keeps IsWellMadeField o
  field_read (Field.field h1 h2 h3) named = declarators_read h3 (type_read h2 named).1
  field_read (Field.label s c h1) named = tt
  field_read (Field.in_type why h1 h2) named = failed_keeps IsWellMadeField why
  field_read (Field.in_declarators why h1 h2 h3) named = failed_keeps IsWellMadeField why

  pub fields_read : {ts : List Lexeme} {o : Outcome (List RawField)} → FieldsToBrace ts o → AreNamed ts → Keeps AreFields o
  fields_read (FieldsToBrace.last {f = f} s h1) named = let r = field_read h1 named in ((omega arith, All-cons IsWellMadeField f [] r.0 (All-nil IsWellMadeField)), r.1.1)
  fields_read (FieldsToBrace.more {f = f} {fs = fs} h1 h2 h3) named = let r = field_read h1 named in let s = fields_read h3 r.1 in ((omega arith, All-cons IsWellMadeField f fs r.0 s.0.1), s.1)
  fields_read (FieldsToBrace.in_field why h1) named = failed_keeps AreFields why
  fields_read (FieldsToBrace.in_more why h1 h2 h3) named = failed_keeps AreFields why

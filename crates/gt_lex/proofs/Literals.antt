-- A literal ends at the first quote of its line that no backslash escapes.
use Rattle.std.proofs.Common.{◌≡◌, ◌≢◌, ℕ, Bool, true, false, cond, List, [], ◌∷◌, ◌++◌, Option, Some, None, refl, ap, ◌∙◌, ◌⊎◌, inl, inr, ⊎_elim, eq-eqb}
use Rattle.std.specs.Prelude.{◌==◌}
use Rattle.std.proofs.lemmas.Bool.{eqb-true, eqb-false, ne_eqb}
use Rattle.gt_lex.proofs.Bools.{chosen}
use Rattle.gt_lex.specs.Characters.{newline, backslash, EndsLine}
use Rattle.gt_lex.specs.Extents.{IsInside, nothing, other, escape, StopsLiteral}
use Rattle.gt_lex.specs.Reading.{literal_rest}

abbrev found : List ℕ → Option (List ℕ)
found rest = Some rest

-- what stands before the closing quote, after a backslash that escapes or not
record Inside (quote : ℕ) (cs rest : List ℕ) : Type 0 where
  inside : List ℕ
  is : IsInside quote inside
  parts : cs ≡ inside ++ quote ∷ rest

record Escaped (quote : ℕ) (cs rest : List ℕ) : Type 0 where
  c : ℕ
  after : List ℕ
  parts : cs ≡ c ∷ after
  on_line : c ≢ newline
  within : Inside quote after rest

abbrev Ends : ℕ → Bool → List ℕ → List ℕ → Type 0
Ends quote false cs rest = Inside quote cs rest
Ends quote true cs rest = Escaped quote cs rest

plain_end : (quote c : ℕ) (cs rest : List ℕ) (escapes : Bool) → (c == backslash) ≡ escapes → c ≢ newline → c ≢ quote → Ends quote escapes cs rest → Inside quote (c ∷ cs) rest
plain_end quote c cs rest false e on_line no_quote ends = record {
  inside = c ∷ ends.inside;
  is = other c ends.inside no_quote (eqb-false c backslash e) on_line ends.is;
  parts = ap (λ (x : List ℕ). c ∷ x) ends.parts;
}
plain_end quote c cs rest true e on_line no_quote ends =
    let is_backslash : c ≡ backslash = eqb-true c backslash e in
    let within = ends.within in
    let split : cs ≡ ends.c ∷ (within.inside ++ quote ∷ rest) = ends.parts ∙ ap (λ (x : List ℕ). ends.c ∷ x) within.parts in
    record {
      inside = backslash ∷ ends.c ∷ within.inside;
      is = escape ends.c within.inside ends.on_line within.is;
      parts = cc;
    }

literal_ends : (quote : ℕ) (escaped : Bool) (cs rest : List ℕ) → literal_rest quote escaped cs ≡ found rest → Ends quote escaped cs rest
literal_ends quote escaped [] rest e = absurd cc
literal_ends quote true (c ∷ cs) rest e =
    ⊎_elim (λ stop. absurd cc)
    (λ on. record { c = c; after = cs; parts = refl; on_line = eqb-false c newline on.0; within = literal_ends quote false cs rest on.1 })
    (chosen (c == newline) None (literal_rest quote false cs) (found rest) e)
literal_ends quote false (c ∷ cs) rest e =
    ⊎_elim (λ stop. absurd cc)
    (λ on.
    ⊎_elim
    (λ close.
    let is_quote : c ≡ quote = eqb-true c quote close.0 in
    let same : cs ≡ rest = cc in
    record { inside = []; is = nothing; parts = cc })
    (λ more. plain_end quote c cs rest (c == backslash) refl (eqb-false c newline on.0) (eqb-false c quote more.0) (literal_ends quote (c == backslash) cs rest more.1))
    (chosen (c == quote) (found cs) (literal_rest quote (c == backslash) cs) (found rest) on.1))
    (chosen (c == newline) None (cond (c == quote) (found cs) (literal_rest quote (c == backslash) cs)) (found rest) e)

pub literal_takes : (quote : ℕ) (cs rest : List ℕ) → literal_rest quote false cs ≡ found rest → (inside : List ℕ) × IsInside quote inside × (cs ≡ inside ++ quote ∷ rest)
literal_takes quote cs rest e = let ends = literal_ends quote false cs rest e in (ends.inside, ends.is, ends.parts)

-- a literal that the line's end stops, after a backslash that escapes or not
record Stopped (quote : ℕ) (cs : List ℕ) : Type 0 where
  inside : List ℕ
  rest : List ℕ
  is : IsInside quote inside
  parts : cs ≡ inside ++ rest
  stops : StopsLiteral rest

record StoppedAfter (quote : ℕ) (cs : List ℕ) : Type 0 where
  c : ℕ
  after : List ℕ
  parts : cs ≡ c ∷ after
  on_line : c ≢ newline
  within : Stopped quote after

abbrev Stops : ℕ → Bool → List ℕ → Type 0
Stops quote false cs = Stopped quote cs
Stops quote true cs = EndsLine cs ⊎ StoppedAfter quote cs

plain_stop : (quote c : ℕ) (cs : List ℕ) (escapes : Bool) → (c == backslash) ≡ escapes → c ≢ newline → c ≢ quote → Stops quote escapes cs → Stopped quote (c ∷ cs)
plain_stop quote c cs false e on_line no_quote stops = record {
  inside = c ∷ stops.inside;
  rest = stops.rest;
  is = other c stops.inside no_quote (eqb-false c backslash e) on_line stops.is;
  parts = ap (λ (x : List ℕ). c ∷ x) stops.parts;
  stops = stops.stops;
}
plain_stop quote c cs true e on_line no_quote (inl ends) = record {
  inside = [];
  rest = c ∷ cs;
  is = nothing;
  parts = refl;
  stops = inr (eqb-true c backslash e, ends);
}
plain_stop quote c cs true e on_line no_quote (inr following) =
    let is_backslash : c ≡ backslash = eqb-true c backslash e in
    let within = following.within in
    let split : cs ≡ following.c ∷ (within.inside ++ within.rest) = following.parts ∙ ap (λ (x : List ℕ). following.c ∷ x) within.parts in
    record {
      inside = backslash ∷ following.c ∷ within.inside;
      rest = within.rest;
      is = escape following.c within.inside following.on_line within.is;
      parts = cc;
      stops = within.stops;
    }

at_newline : (quote : ℕ) (escaped : Bool) (c : ℕ) (cs : List ℕ) → c ≡ newline → Stops quote escaped (c ∷ cs)
at_newline quote false c cs is = record { inside = []; rest = c ∷ cs; is = nothing; parts = refl; stops = inl is }
at_newline quote true c cs is = inl is

literal_stops : (quote : ℕ) (escaped : Bool) (cs : List ℕ) → literal_rest quote escaped cs ≡ None → Stops quote escaped cs
literal_stops quote false [] e = record { inside = []; rest = []; is = nothing; parts = refl; stops = tt }
literal_stops quote true [] e = inl tt
literal_stops quote true (c ∷ cs) e =
    ⊎_elim (λ stop. at_newline quote true c cs (eqb-true c newline stop.0))
    (λ on. inr (record { c = c; after = cs; parts = refl; on_line = eqb-false c newline on.0; within = literal_stops quote false cs on.1 }))
    (chosen (c == newline) None (literal_rest quote false cs) None e)
literal_stops quote false (c ∷ cs) e =
    ⊎_elim (λ stop. at_newline quote false c cs (eqb-true c newline stop.0))
    (λ on.
    ⊎_elim (λ close. absurd cc)
    (λ more. plain_stop quote c cs (c == backslash) refl (eqb-false c newline on.0) (eqb-false c quote more.0) (literal_stops quote (c == backslash) cs more.1))
    (chosen (c == quote) (found cs) (literal_rest quote (c == backslash) cs) None on.1))
    (chosen (c == newline) None (cond (c == quote) (found cs) (literal_rest quote (c == backslash) cs)) None e)

pub literal_open : (quote : ℕ) (cs : List ℕ) → literal_rest quote false cs ≡ None → (inside rest : List ℕ) × (cs ≡ inside ++ rest) × IsInside quote inside × StopsLiteral rest
literal_open quote cs e = let stopped = literal_stops quote false cs e in (stopped.inside, stopped.rest, stopped.parts, stopped.is, stopped.stops)

-- ---- what may stand in a literal is passed

-- a quote is neither a newline nor a backslash
pub record IsQuote (quote : ℕ) : Type 0 where
  pub no_newline : (quote == newline) ≡ false
  pub no_backslash : (backslash == quote) ≡ false

pub inside_passed : (quote : ℕ) (inside rest : List ℕ) → IsQuote quote → IsInside quote inside → literal_rest quote false (inside ++ rest) ≡ literal_rest quote false rest
inside_passed quote _ rest is_quote nothing = refl
inside_passed quote _ rest is_quote (other c cs no_quote no_backslash no_newline is) =
    rw (ne_eqb c newline no_newline, ne_eqb c quote no_quote, ne_eqb c backslash no_backslash) (inside_passed quote cs rest is_quote is)
inside_passed quote _ rest is_quote (escape c cs no_newline is) =
    rw (is_quote.no_backslash, ne_eqb c newline no_newline) (inside_passed quote cs rest is_quote is)

pub literal_again : (quote : ℕ) (inside rest : List ℕ) → IsQuote quote → IsInside quote inside → literal_rest quote false (inside ++ quote ∷ rest) ≡ found rest
literal_again quote inside rest is_quote is =
    inside_passed quote inside (quote ∷ rest) is_quote is ∙ rw (is_quote.no_newline, eq-eqb quote quote refl) refl

stops_here : (quote : ℕ) (rest : List ℕ) → IsQuote quote → StopsLiteral rest → literal_rest quote false rest ≡ None
stops_here quote [] is_quote stops = refl
stops_here quote (c ∷ cs) is_quote (inl is) = rw is refl
stops_here quote (c ∷ []) is_quote (inr following) = rw (following.0, is_quote.no_backslash) refl
stops_here quote (c ∷ d ∷ cs) is_quote (inr following) = rw (following.0, is_quote.no_backslash, following.1) refl

pub literal_open_again : (quote : ℕ) (inside rest : List ℕ) → IsQuote quote → IsInside quote inside → StopsLiteral rest → literal_rest quote false (inside ++ rest) ≡ None
literal_open_again quote inside rest is_quote is stops = inside_passed quote inside rest is_quote is ∙ stops_here quote rest is_quote stops

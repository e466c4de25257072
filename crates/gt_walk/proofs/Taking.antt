-- Edges that a sink takes in parts.
use Rattle.std.proofs.Common.{◌≡◌, List, [], ◌∷◌, ◌++◌, refl, sym, subst}
use Rattle.gt_walk.specs.Rows.{Edge}
use Rattle.gt_walk.specs.Sinks.{CanTake, Took}

module _ {S : Type 0} (takes : S → Edge → Type 0) (leaves : S → Edge → S → Type 0) where
  -- a sink that takes each edge, whatever it is, takes all edges
  pub can-all : ((s : S) (e : Edge) → takes s e) → (s : S) (es : List Edge) → CanTake takes leaves s es
  can-all each s [] = tt
  can-all each s (e ∷ es) = (each s e, λ t l. can-all each t es)

  can-front : (s : S) (xs ys : List Edge) → CanTake takes leaves s (xs ++ ys) → CanTake takes leaves s xs
  can-front s [] ys h = tt
  can-front s (x ∷ xs) ys h = (h.0, λ t l. can-front t xs ys (h.1 t l))

  can-back : (s t : S) (xs ys : List Edge) → CanTake takes leaves s (xs ++ ys) → Took leaves s xs t → CanTake takes leaves t ys
  can-back s t [] ys h e = subst (λ u. CanTake takes leaves u ys) (sym e) h
  can-back s t (x ∷ xs) ys h e = can-back e.0 t xs ys (h.1 e.0 e.1) e.2

  took-both : (s t u : S) (xs ys : List Edge) → Took leaves s xs t → Took leaves t ys u → Took leaves s (xs ++ ys) u
  took-both s t u [] ys e f = subst (λ v. Took leaves v ys u) e f
  took-both s t u (x ∷ xs) ys e f = (e.0, e.1, took-both e.0 t u xs ys e.2 f)

  -- from where it started the sink is now so far that these edges are left
  pub record Went (start : S) (all : List Edge) (now : S) (rest : List Edge) : Type 0 where
    pub can : CanTake takes leaves now rest
    pub took : (end : S) → Took leaves now rest end → Took leaves start all end

  pub went-start : (s : S) (all : List Edge) → CanTake takes leaves s all → Went s all s all
  went-start s all h = record { can = h; took = λ end e. e }

  pub went-front : (start now : S) (all xs ys : List Edge) → Went start all now (xs ++ ys) → CanTake takes leaves now xs
  went-front start now all xs ys h = can-front now xs ys h.can

  pub went-on : (start now next : S) (all xs ys : List Edge) → Went start all now (xs ++ ys) → Took leaves now xs next → Went start all next ys
  went-on start now next all xs ys h e = record {
    can = can-back now next xs ys h.can e;
    took = λ end f. h.took end (took-both now next end xs ys e f);
  }

  pub went-as : (start now : S) (all rest same : List Edge) → rest ≡ same → Went start all now rest → Went start all now same
  went-as start now all rest same e h = subst (Went start all now) e h

  pub went-end : (start now : S) (all rest : List Edge) → rest ≡ [] → Went start all now rest → Took leaves start all now
  went-end start now all rest e h = (subst (Went start all now) e h).took now refl

  pub can-as : (s : S) (xs ys : List Edge) → xs ≡ ys → CanTake takes leaves s xs → CanTake takes leaves s ys
  can-as s xs ys e h = subst (CanTake takes leaves s) e h

  pub took-as : (s t : S) (xs ys : List Edge) → xs ≡ ys → Took leaves s xs t → Took leaves s ys t
  took-as s t xs ys e h = subst (λ zs. Took leaves s zs t) e h

  pub took-none : (s t : S) (xs : List Edge) → xs ≡ [] → t ≡ s → Took leaves s xs t
  took-none s t xs e same = subst (λ zs. Took leaves s zs t) (sym e) same

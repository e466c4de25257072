-- Steps that the walks of `src/memory.rt` share, and lemmas on bytes side by side. Assumes `Logic`.
--     none, none_made, none_had      a struct without fields
--     mark, mark_made, mark_had      a struct whose one field has no bytes
--     two_made, three_made           a tuple
use Rattle.std.proofs.Common.{◌≡◌, ℕ, zero, suc, ◌+◌, ◌-◌, ◌<◌, List, [], ◌∷◌, ◌++◌, length, replicate, refl, subst, w8, arith}
use seplogic.Ra.Ura.{Ura}
use base.Fraction.{full_share}
use mir.Syntax.{Ty, Body, ty_int, ty_array}
use mir.Val.{Val, vint, vstruct, vcons, vnil, of_list}
use base.Logic.{ent, sep}
use base.Fml.{ftrue, fat, froom}
use types.Logic.{Logic, sem}
use types.Kit.{Goal, Seq, Step, step, Item, Post, any_q, post, ‵, ◌$◌, ◌∵◌, !, qed, by, move, drop, use1, use2, fsplit, fjoin, fpick, fpack, feq_l, feq_i, rewrite, done}
use denote.Builtin.{u8, unit}
use denote.Signature.{Slot, plain}
use prog.Wp.{Env, Calls, Loops, Wp, after_seq, after_block}
use denote.Index.{row}
use denote.Memory.{part_at}
use denote.Plain.{uint_out}
use denote.RattleType.{RattleType, Valss}
use denote.Steps.{nothing}
use denote.Struct.Struct.{Struct, within}

-- a struct by its fields alone: what it owns does not read its name
abbrev pub plainly : List RattleType → RattleType
plainly Rs = Struct (record { name = []; args = []; types = []; fields = Rs })

abbrev pub none : Val
none = vstruct vnil

abbrev pub mark : Val
mark = vstruct (vcons none vnil)

abbrev pub two : Val → Val → Val
two u v = vstruct (vcons u (vcons v vnil))

abbrev pub three : Val → Val → Val → Val
three u v w = vstruct (vcons u (vcons v (vcons w vnil)))

module _ {M : Type 1} {𝓤 : Ura M} {𝓛 : Logic 𝓤} {K : Type 0} {Γ : List (Item 𝓤)} {G : Goal 𝓤 𝓛.H} where
  pub none_made : K → Step K 𝓛 (‵ ((plainly []).own_val tt (none ∷ [])) ∷ Γ) G Γ G
  none_made t = step (λ s.
      nothing t $ feq_i t (List Val) (none ∷ []) (none ∷ []) refl $ fjoin t $
      fpack t (Valss []) (within (record { name = []; args = []; types = []; fields = [] }) tt (none ∷ [])) tt $ s)

  pub none_had : K → (vs : List Val) → (vs ≡ none ∷ [] → Seq K 𝓛 Γ G) → Seq K 𝓛 (‵ ((plainly []).own_val tt vs) ∷ Γ) G
  none_had t vs k = fpick t (λ vss. fsplit t $ feq_l t (λ e. drop t $ k e))

  pub mark_had : K → (vs : List Val) → (vs ≡ mark ∷ [] → Seq K 𝓛 Γ G) → Seq K 𝓛 (‵ ((plainly (plainly [] ∷ [])).own_val (tt, tt) vs) ∷ Γ) G
  mark_had t vs k = fpick t (λ vss. fsplit t $ feq_l t (λ ev. fsplit t $ fpick t (λ uss. fsplit t $ feq_l t (λ e. drop t $ drop t $
      k (subst (λ (ws : List Val). vs ≡ vstruct (of_list (ws ++ [])) ∷ []) e ev)))))

  pub two_made : K → (R S : RattleType) (x : R.Denot) (y : S.Denot) (u v : Val)
      → Step K 𝓛 (‵ ((plainly (R ∷ S ∷ [])).own_val (x, (y, tt)) (two u v ∷ [])) ∷ Γ) G (‵ (R.own_val x (u ∷ [])) ∷ ‵ (S.own_val y (v ∷ [])) ∷ Γ) G
  two_made t R S x y u v = step (λ s.
      nothing t $ move t (2 ∷ 0 ∷ []) $ fjoin t $ move t (1 ∷ 0 ∷ []) $ fjoin t $ feq_i t (List Val) (two u v ∷ []) (two u v ∷ []) refl $ fjoin t $
      fpack t (Valss (R ∷ S ∷ [])) (within (record { name = []; args = []; types = []; fields = R ∷ S ∷ [] }) (x, (y, tt)) (two u v ∷ [])) (u ∷ [], (v ∷ [], tt)) $ s)

  pub three_made : K → (R S T : RattleType) (x : R.Denot) (y : S.Denot) (z : T.Denot) (u v w : Val)
      → Step K 𝓛 (‵ ((plainly (R ∷ S ∷ T ∷ [])).own_val (x, (y, (z, tt))) (three u v w ∷ [])) ∷ Γ) G (‵ (R.own_val x (u ∷ [])) ∷ ‵ (S.own_val y (v ∷ [])) ∷ ‵ (T.own_val z (w ∷ [])) ∷ Γ) G
  three_made t R S T x y z u v w = step (λ s.
      nothing t $ move t (3 ∷ 0 ∷ []) $ fjoin t $ move t (2 ∷ 0 ∷ []) $ fjoin t $ move t (1 ∷ 0 ∷ []) $ fjoin t $ feq_i t (List Val) (three u v w ∷ []) (three u v w ∷ []) refl $ fjoin t $
      fpack t (Valss (R ∷ S ∷ T ∷ [])) (within (record { name = []; args = []; types = []; fields = R ∷ S ∷ T ∷ [] }) (x, (y, (z, tt))) (three u v w ∷ [])) (u ∷ [], (v ∷ [], (w ∷ [], tt))) $ s)

module _ {M : Type 1} {𝓤 : Ura M} {𝓛 : Logic 𝓤} {K : Type 0} {Γ : List (Item 𝓤)} {G : Goal 𝓤 𝓛.H} where
  pub mark_made : K → Step K 𝓛 (‵ ((plainly (plainly [] ∷ [])).own_val (tt, tt) (mark ∷ [])) ∷ Γ) G Γ G
  mark_made t = step (λ s.
      nothing t $ none_made t $ fjoin t $ feq_i t (List Val) (mark ∷ []) (mark ∷ []) refl $ fjoin t $
      fpack t (Valss (plainly [] ∷ [])) (within (record { name = []; args = []; types = []; fields = plainly [] ∷ [] }) (tt, tt) (mark ∷ [])) (none ∷ [], tt) $ s)

abbrev pub byte : Ty
byte = ty_int w8

module _ {M : Type 1} {𝓤 : Ura M} (𝓛 : Logic 𝓤) where
  open 𝓛 use {H}

  -- zeros in a row, with one more at their end
  pub row_snoc : (n b o : ℕ) → ent 𝓤 (sep 𝓤 (sem 𝓛 (row u8 full_share (replicate n 0) b o)) (sem 𝓛 (part_at u8 full_share 0 b (n + o)))) (sem 𝓛 (row u8 full_share (replicate (suc n) 0) b o))
  row_snoc zero b o =
      let same : 0 + o ≡ o = omega arith in
      qed 𝓛 (‵ ftrue ∷ ‵ (part_at u8 full_share 0 b (0 + o)) ∷ []) ∵ rewrite ! 1 (λ (k : ℕ). ‵ (part_at u8 full_share 0 b k)) same refl $ move ! (1 ∷ 0 ∷ []) $ fjoin ! $ done !
  row_snoc (suc n) b o =
      let on : suc n + o ≡ n + (o + 1) = omega arith in
      qed 𝓛 (‵ (row u8 full_share (replicate (suc n) 0) b o) ∷ ‵ (part_at u8 full_share 0 b (suc n + o)) ∷ []) ∵ rewrite ! 1 (λ (k : ℕ). ‵ (part_at u8 full_share 0 b k)) on refl $
      fsplit ! $ move ! (1 ∷ 2 ∷ []) $ use2 𝓛 (‵ (row u8 full_share (replicate (suc n) 0) b (o + 1))) (row_snoc n b (o + 1)) $ move ! (1 ∷ 0 ∷ []) $ fjoin ! $ done !

  -- the first byte of what is left of a room
  pub room_first : (n i b o : ℕ) → i < n → ent 𝓤 (H.room (ty_array byte (n - i)) b (i + o)) (sep 𝓤 (H.room byte b (i + o)) (H.room (ty_array byte (n - suc i)) b (suc i + o)))
  room_first n i b o inside =
      let count : suc (n - suc i) ≡ n - i = omega arith in
      let on : i + o + 1 ≡ suc i + o = omega arith in
      subst (λ (k : ℕ). ent 𝓤 (H.room (ty_array byte k) b (i + o)) (sep 𝓤 (H.room byte b (i + o)) (H.room (ty_array byte (n - suc i)) b (suc i + o)))) count
      (subst (λ (j : ℕ). ent 𝓤 (H.room (ty_array byte (suc (n - suc i))) b (i + o)) (sep 𝓤 (H.room byte b (i + o)) (H.room (ty_array byte (n - suc i)) b j))) on
      (𝓛.laws.room_uncons byte (n - suc i) b (i + o)))

  -- bytes that are let go leave room for as many
  pub row_room : (xs : List ℕ) (b o : ℕ) → ent 𝓤 (sem 𝓛 (row u8 full_share xs b o)) (H.room (ty_array byte (length xs)) b o)
  row_room [] b o = 𝓛.laws.room_nil byte b o
  row_room (x ∷ xs) b o =
      qed 𝓛 (‵ (row u8 full_share (x ∷ xs) b o) ∷ []) ∵ fsplit ! $
      use1 𝓛 (‵ (fat full_share byte b o (vint w8 x))) (uint_out 𝓛 full_share w8 x b o) $ use1 𝓛 (‵ (froom byte b o)) (𝓛.laws.at_room byte b o (vint w8 x)) $ move ! (1 ∷ []) $
      use1 𝓛 (‵ (froom (ty_array byte (length xs)) b (o + 1))) (row_room xs b (o + 1)) $ move ! (1 ∷ []) $ by ! (𝓛.laws.room_cons byte (length xs) b o)

-- what a function has of its k-th parameter
abbrev pub slot_at : {n : ℕ} → ℕ → List (Slot n) → Slot n
slot_at k [] = plain (λ _. unit)
slot_at zero (s ∷ ss) = s
slot_at (suc k) (s ∷ ss) = slot_at k ss

-- where a statement in an arm or a block goes on
module _ {M : Type 1} {𝓤 : Ura M} (𝓛 : Logic 𝓤) where
  open 𝓛 use {H}

  abbrev pub then_runs : Calls 𝓤 H → Loops 𝓤 H → Env 𝓤 H → Body → Post 𝓤 H → Post 𝓤 H
  then_runs C Λ E b q = any_q (after_seq 𝓤 H (Wp 𝓤 H C Λ E b (post 𝓤 H q)) (post 𝓤 H q))

  abbrev pub out_of_block : Post 𝓤 H → Post 𝓤 H
  out_of_block q = any_q (after_block 𝓤 H (post 𝓤 H q))

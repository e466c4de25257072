-- `as_mut_slice` lends the bytes to be written, and the block follows them. Assumes `Logic`.
use Rattle.std.proofs.Common.{◌≡◌, ℕ, ◌^◌, ◌<◌, List, [], ◌∷◌, ◌++◌, length, refl, sym, ap, subst, ◌∙◌, arith, w64, MutBor}
use seplogic.Ra.Ura.{Ura}
use base.Fraction.{full_share}
use mir.Syntax.{named, ty_ptr}
use mir.Val.{Val, vptr, vint}
use base.Logic.{SProp, ent, sep, never, id⊢}
use base.Fml.{Lft, GName, Share, Fml, ftrue, fsep, feq, fat, flft}
use prog.Memory.{Memory}
use prog.Routine.{Routine}
use prog.Wp.{Calls, Loops, WpFn, Tables}
use contract.Monad.{Fun, fact}
use contract.Running.{tables, tables_of}
use sound.WpLaws.{WpFn-mono}
use types.Logic.{Logic, sem}
use types.SemTy.{cells}
use types.Kit.{‵, raw, ◌⊛◌, some, later, await, pick, group, prop, ◌$◌, ◌∵◌, !, qed, by, move, keep, drop, use1, split, join, frame, fsplit, fsplit3, fjoin, fpack, feq_l, feq_i, regoal, rewrite, suffices, done, at_ret, flt_l}
use types.Part.{agg}
use types.Run.{enter, returns, of_opd, and_then, no_more, first, blocks, exec}
use types.ByLocal.{alloc_all, pass_all, free_all, look_at, get, sets, sets_last, take_at, give_at, env}
use denote.Array.{Array}
use denote.ArrayMemory.{Array-apart, Array-whole}
use denote.Exit.{yes, no}
use denote.RattleType.{RattleType, owns}
use denote.Builtin.{u8, RawPtr, usize}
use denote.Follow.{follows}
use denote.FollowSlice.{Elements, lends_Elements}
use denote.Index.{row, whole_in, whole_out}
use denote.Memory.{mem, cell_at, part_at, part_of}
use denote.Signature.{plain, mut_ref_to, types_at}
use denote.Slice.{MutSlice, Room, slice_val}
use denote.Steps.{nothing, heard, opens}
use denote.Struct.Struct.{Struct}
use denote.Struct.Owning.{shape}
use denote.RawPtr.{Ptr, block_ptr, ptr_val, rawptr_Lawful, in_a_block}
use denote.Triple.Clauses.{Clauses, closing}
use denote.Triple.Spec.{Meets, triple_of}
use denote.Triple.Table.{entered}
use denote.Triple.Walked.{says, Stays, stay_dropped, walk_of, ends_at, walk_Meets, Goes-dropped, Goes-spent_ref}
use Rattle.gt_space.specs.Memory.{owned_bytes}
use Rattle.gt_space.specs.MemoryLends.{with_items}
use Rattle.gt_space.specs.contracts.memory.Bytes as B
use Rattle.gt_space.specs.contracts.memory.Bytes.as_mut_slice as F
use Rattle.gt_space.specs.contracts.memory.Bytes.as_mut_slice.Key.{name as #self}
use Rattle.gt_space.proofs.memory.Bytes.as_mut_slice.Statement as stated
use Rattle.gt_space.proofs.memory.Bytes.as_mut_slice.Code as code

abbrev stayed : Stays F.ended.signature.params F.ended.kept
stayed = (stay_dropped (mut_ref_to (0 ∷ []) tt (plain (λ _. B.the_row))) no, (stay_dropped (plain (λ _. RawPtr)) yes, (stay_dropped (plain (λ _. usize)) yes, tt)))

-- what a `Bytes` has beside what it owns in the block: no fields
abbrev Fields : RattleType
Fields = Struct (shape B.the_type)

module _ {M : Type 1} {𝓤 : Ura M} (𝓛 : Logic 𝓤) (rb ro : ℕ) (vs : List Val) (d : (B.the_row).Denot) (b o : ℕ) where
  abbrev Rest : Fml
  Rest = fsep (Fields.own_val tt vs) (cell_at full_share (B.the_row).mir vs rb ro)

  -- with other bytes in their place it is a block again
  back : d.at ≡ block_ptr b o → (ws : List ℕ) → length ws ≡ length d.items
      → ent 𝓤 (sep 𝓤 (sem 𝓛 (cells (mem u8) ws b o)) (sem 𝓛 Rest)) (sem 𝓛 ((mem B.the_row).own_at (with_items d ws) rb ro))
  unfolding part_of
  back e ws same =
      qed 𝓛 (‵ (cells (mem u8) ws b o) ∷ ‵ Rest ∷ []) ∵ use1 𝓛 (‵ (row u8 full_share ws b o)) (whole_out 𝓛 u8 ws b o) $
      feq_i ! ℕ (length ws) (length ws) refl $ fjoin ! $ use1 𝓛 (‵ (part_at (Array u8 (length ws)) full_share ws b o)) (Array-whole 𝓛 u8 full_share (length ws) ws b o) $
      rewrite ! 0 (λ (p : Ptr). ‵ (owned_bytes p ws)) (sym e) refl $ move ! (1 ∷ []) $ fsplit ! $ move ! (0 ∷ 2 ∷ []) $ fjoin ! $ move ! (1 ∷ 0 ∷ []) $ fjoin ! $
      fpack ! (List Val) (λ us. fsep (cell_at full_share (B.the_row).mir us rb ro) ((B.the_row).own_val (with_items d ws) us)) vs $ done !

module _ {M : Type 1} {𝓤 : Ura M} (𝓛 : Logic 𝓤) (at_mem : Memory → SProp 𝓤) (run : Routine → Fun 𝓤) where
  open 𝓛 use {H, A}

  abbrev held : Clauses 𝓤 F.ended
  held = F.clauses 𝓛 at_mem run

  module _ (C : Calls 𝓤 H) (Λ : Loops 𝓤 H) (z : (walk_of 𝓛 F.ended stayed held).Ghost) where
    abbrev Post : Val → SProp 𝓤
    Post = (walk_of 𝓛 F.ended stayed held).post z

    exits : (v : Val) (r : MutBor (List ℕ)) → r.now ≡ z.0.3.0.now.items
        → ent 𝓤 (sep 𝓤 (sem 𝓛 ((MutSlice (named 0) z.0.0.0 u8).own_val r (v ∷ []))) (sep 𝓤 (A.lft z.0.0.0 z.0.1.0) (sem 𝓛 (follows B.the_row (Array u8 0) z.0.3.0.ghost_name r.ghost_name (with_items z.0.3.0.now))))) (Post v)
    exits v r e =
        qed 𝓛 (‵ ((MutSlice (named 0) z.0.0.0 u8).own_val r (v ∷ [])) ∷ ‵ (flft z.0.0.0 z.0.1.0) ∷ ‵ (follows B.the_row (Array u8 0) z.0.3.0.ghost_name r.ghost_name (with_items z.0.3.0.now)) ∷ []) ∵
        suffices ! _ (ends_at 𝓛 F.ended stayed held z v r (tt, (tt, (tt, tt))) (tt, (tt, (tt, tt)))) $
        nothing ! $ nothing ! $ fjoin ! $ nothing ! $ fjoin ! $ nothing ! $ fjoin ! $ join ! $ nothing ! $ move ! (2 ∷ 0 ∷ []) $ join ! $ join ! $ frame ! $ says ! e $ done !

    walks : ent 𝓤 ((walk_of 𝓛 F.ended stayed held).pre z) (WpFn 𝓤 H C Λ code.function ((walk_of 𝓛 F.ended stayed held).args z) Post)
    walks =
        let a = z.0.3 in
        let vss = z.0.4 in
        let rb = a.0.ref_ptr.0 in
        let ro = a.0.ref_ptr.1 in
        let γ = a.0.ghost_name in
        let d = a.0.now in
        let p = a.1.0 in
        let n = a.1.1.0 in
        let xs = d.items in
        let κ : Lft = z.0.0.0 in
        let q : Share = z.0.1.0 in
        let new = with_items d in
        let Asked = (d.at ≡ p) × (length xs ≡ n) in
        qed 𝓛 (((‵ (flft κ q) ⊛ ‵ ftrue) ⊛ ‵ (owns (types_at F.ended.signature.params z.0.0) a vss)) ∷ (raw (fact 𝓤 (n < 2 ^ 63)) ⊛ raw (fact 𝓤 Asked)) ∷ []) ∵
        move ! (1 ∷ []) $ split ! $ heard ! (n < 2 ^ 63) (λ small. heard ! Asked (λ asked. split ! $ move ! (1 ∷ []) $
        let long : length xs ≡ n = asked.1 in
        fsplit ! $ fsplit3 ! $ feq_l ! (λ is₀. move ! (2 ∷ []) $
        fsplit ! $ feq_l ! (λ is₁. fsplit ! $ fsplit ! $ feq_l ! (λ is₂. flt_l ! (λ fits. drop ! $
        regoal ! (λ (us : List Val). prop (WpFn 𝓤 H C Λ code.function (us ++ (vss.1.0 ++ (vss.1.1.0 ++ []))) Post)) is₀ refl $
        regoal ! (λ (us : List Val). prop (WpFn 𝓤 H C Λ code.function ((vptr rb ro ∷ []) ++ (us ++ (vss.1.1.0 ++ []))) Post)) (is₁ ∙ ap (λ r. ptr_val r ∷ []) (sym asked.0)) refl $
        regoal ! (λ (us : List Val). prop (WpFn 𝓤 H C Λ code.function ((vptr rb ro ∷ []) ++ ((ptr_val d.at ∷ []) ++ (us ++ []))) Post)) is₂ refl $
        move ! (2 ∷ []) $ split ! $ move ! (1 ∷ []) $ drop ! $ move ! (1 ∷ 2 ∷ 0 ∷ []) $
        -- [the observation; the borrow; the token]
        enter ! C Λ code.function (vptr rb ro ∷ ptr_val d.at ∷ vint w64 n ∷ []) Post $ alloc_all ! (λ l. pass_all ! refl ((tt, tt), (((rawptr_Lawful 𝓛).typed d.at _ refl).0, ((tt, record { fits = fits }), tt))) $
        opens ! tt B.the_row {h = d} rb ro (λ vs. move ! (1 ∷ []) $ fsplit ! $ move ! (1 ∷ []) $
        in_a_block ! d.at (λ r. owned_bytes r xs) (id⊢ 𝓤 (never 𝓤)) (λ b o e.
        take_at ! 2 $ rewrite ! 0 (λ (r : Ptr). ‵ (fat full_share ty_ptr (l 2) 0 (ptr_val r))) e refl $ give_at ! 2 $
        use1 𝓛 (‵ (fsep (feq ℕ (length xs) (length xs)) (row u8 full_share xs b o))) (Array-apart 𝓛 u8 full_share tt (length xs) xs b o) $ fsplit ! $ drop ! $
        use1 𝓛 (‵ (cells (mem u8) xs b o)) (whole_in 𝓛 u8 xs b o) $
        -- [the bytes; the fields; the cell; the open borrow, in three entries; the locals]
        first ! $ blocks ! $
        sets_last ! (agg ! (and_then ! (get ! refl) (and_then ! (get ! refl) (no_more !)))) refl (tt, (tt, (record { fits = fits }, tt))) $
        exec ! C Λ (env code.function.locals l) code.Mir.t-2 (at_ret (env code.function.locals l) Post) $
        sets ! (of_opd ! (get ! refl)) refl (tt, (tt, (record { fits = fits }, tt))) $
        move ! (1 ∷ 2 ∷ []) $ fjoin ! $ move ! (2 ∷ 3 ∷ 4 ∷ 1 ∷ 0 ∷ []) $ group ! 5 $
        let room : Room u8 (length xs) = (omega (arith, small, long), omega (arith, small, long)) in
        let held' = sem 𝓛 (Rest 𝓛 rb ro vs d b o) in
        let way = back 𝓛 rb ro vs d b o e in
        use1 𝓛 (later (some (λ (δ : GName). raw (Elements 𝓛 B.the_row u8 new (named 0) κ q rb ro b o γ xs room held' way δ))))
        (lends_Elements 𝓛 B.the_row u8 new (named 0) κ q rb ro b o γ xs room held' way ((B.the_row).coded.code d) ((B.the_row).coded.code d)) $ await ! tt $ pick ! (λ δ.
        returns ! (look_at ! 0 refl) $ free_all ! refl $ keep ! (0 ∷ []) $
        by ! (subst (λ (k : ℕ). ent 𝓤 (Elements 𝓛 B.the_row u8 new (named 0) κ q rb ro b o γ xs room held' way δ) (Post (slice_val (b, o) k))) long
        (exits (slice_val (b, o) (length xs)) (record { ref_ptr = (b, o); ghost_name = δ; now = xs }) refl))))))))))))

  meets : (𝓣 : Tables 𝓤 H) → Meets 𝓛 F.ended.signature (WpFn 𝓤 H 𝓣.C 𝓣.Λ code.function) (closing 𝓛 F.ended held)
  meets 𝓣 =
      walk_Meets 𝓛 F.ended stayed (Goes-spent_ref 𝓛 1 (0 ∷ []) tt (plain (λ _. B.the_row)), (Goes-dropped 𝓛 1 (plain (λ _. RawPtr)) yes (λ κs x f. refl), (Goes-dropped 𝓛 1 (plain (λ _. usize)) yes (λ κs x f. refl), tt))) held
      (WpFn 𝓤 H 𝓣.C 𝓣.Λ code.function) (WpFn-mono 𝓤 H 𝓛.laws 𝓣 code.function) (walks 𝓣.C 𝓣.Λ)

pub as_mut_slice_spec : {M : Type 1} → stated.statement M
unfolding tables_of
as_mut_slice_spec 𝓤 𝓛 𝓜 𝓡 wired =
    let 𝓣 : Tables 𝓤 𝓛.H = tables_of 𝓤 𝓛.H 𝓜 (tables 𝓤 𝓛.H 𝓜 𝓡 𝓡.env) in
    entered 𝓤 𝓛.H (triple_of 𝓛 F.ended.signature (closing 𝓛 F.ended (held 𝓛 𝓜.mem 𝓡.returns))) 𝓣.C 𝓣.Λ #self code.function
    (code.unfolded 𝓤 𝓛.H 𝓜 𝓡 wired) (meets 𝓛 𝓜.mem 𝓡.returns 𝓣)

-- `write_zeros` writes the bytes from the first on. Assumes `Logic`.
use Rattle.std.proofs.Common.{◌≡◌, ℕ, zero, suc, ◌+◌, ◌-◌, ◌^◌, ◌<◌, ◌≤◌, List, [], ◌∷◌, ◌++◌, length, replicate, refl, sym, ap, ◌∙◌, arith, lit<, w8, w64}
use mathlib.Core.WellFounded.InvImage
use lib.Dec.{ltb→lt, nltb→le}
use lib.WfN.{lt-wf_rel}
use seplogic.Ra.Ura.{Ura}
use base.Fraction.{full_share}
use mir.Syntax.{Body, ty_int, ty_array, seq, assign, block, cond, skip, exit, place, deref, copy, rv_opd, op2, lt, add, offset, unsigned, int}
use mir.Val.{Val, vptr, vint}
use base.Logic.{SProp, ent, never, id⊢}
use base.Fml.{fat, froom}
use prog.Memory.{Memory}
use prog.Routine.{Routine}
use prog.Wp.{Env, Out, Wp, WpFn, Tables, at_return, after_seq, after_block, after_turn}
use contract.Monad.{Fun, fact}
use contract.Running.{tables, tables_of}
use sound.WpLaws.{WpFn-mono}
use types.Logic.{Logic, sem}
use types.Kit.{Item, Sq, any_q, runs, ‵, raw, ◌⊛◌, prop, at_ret, ◌$◌, ◌∵◌, !, qed, by, move, drop, use0, use1, use2, split, rewrite, regoal, fsplit, fjoin, feq_l, feq_i, flt_l, suffices, done}
use types.Part.{agg}
use types.Run.{stop, lit, bin, of_opd, no_more, init, assigns_last, first, blocks, skips, jumps, branches, exec, returns, enter, loops, again, Below}
use types.ByLocal.{alloc_all, pass_all, free_all, look_at, get, through, sets, sets_last, env, holding, forget_but, take_at, give_at}
use denote.Array.{Array}
use denote.ArrayMemory.{Array-whole}
use denote.Builtin.{u8, RawPtr, usize}
use denote.Exit.{yes}
use denote.Index.{row}
use denote.Memory.{part_at}
use denote.Plain.{uint_in}
use denote.RattleType.{owns}
use denote.RawPtr.{Ptr, block_ptr, ptr_val, in_a_block}
use denote.Signature.{plain, types_at}
use denote.Steps.{nothing, heard}
use denote.Triple.Clauses.{Clauses, closing}
use denote.Triple.Entry.{alive}
use denote.Triple.Spec.{Meets, triple_of}
use denote.Triple.Table.{entered}
use denote.Triple.Walked.{says, Stays, stay_dropped, walk_of, ends_at, walk_Meets, Goes-dropped}
use Rattle.std.proofs.alloc.Calls.{Goes-blank}
use Rattle.gt_space.specs.Memory.{owned_room}
use Rattle.gt_space.proofs.MemorySteps.{none, byte, none_made, none_had, row_snoc, room_first}
use Rattle.gt_space.specs.contracts.memory.Bytes as B
use Rattle.gt_space.specs.contracts.memory.Room as R
use Rattle.gt_space.specs.contracts.memory.Room.write_zeros as F
use Rattle.gt_space.specs.contracts.memory.Room.write_zeros.Key.{name as #self}
use Rattle.gt_space.proofs.memory.Room.write_zeros.Statement as stated
use Rattle.gt_space.proofs.memory.Room.write_zeros.Code as code

abbrev stayed : Stays F.ended.signature.params F.ended.kept
stayed = (stay_dropped (plain (λ _. R.the_row)) yes, (stay_dropped (plain (λ _. RawPtr)) yes, (stay_dropped (plain (λ _. usize)) yes, tt)))

-- the parts of the loop's body
abbrev counts : Body
counts = assign (place 4 []) (op2 (add unsigned) (copy (place 4 [])) (int w64 1))

abbrev writes : Body
writes = seq (block (seq (assign (place 6 []) (op2 offset (copy (place 2 [])) (copy (place 4 [])))) (assign (place 6 (deref (ty_int w8) ∷ [])) (rv_opd (int w8 0))))) counts

abbrev turn : Body
turn = seq (assign (place 5 []) (op2 (lt unsigned) (copy (place 4 [])) (copy (place 3 [])))) (seq (cond (copy (place 5 [])) skip (exit 1)) writes)

module _ {M : Type 1} {𝓤 : Ura M} (𝓛 : Logic 𝓤) (at_mem : Memory → SProp 𝓤) (run : Routine → Fun 𝓤) where
  open 𝓛 use {H}

  abbrev held : Clauses 𝓤 F.ended
  held = F.clauses 𝓛 at_mem run

  module _ (𝓣 : Tables 𝓤 H) (z : (walk_of 𝓛 F.ended stayed held).Ghost) where
    abbrev Post : Val → SProp 𝓤
    Post = (walk_of 𝓛 F.ended stayed held).post z

    abbrev n : ℕ
    n = z.0.3.1.1.0

    module _ (b o : ℕ) (at : z.0.3.1.0 ≡ block_ptr b o) (fits : n < 2 ^ 64) where
      exits : ent 𝓤 (sem 𝓛 (row u8 full_share (replicate n 0) b o)) (Post none)
      exits =
          let zeros : List ℕ = replicate n 0 in
          let bytes : (B.the_row).Denot = record { at = block_ptr b o; items = zeros } in
          qed 𝓛 (‵ (row u8 full_share zeros b o) ∷ []) ∵ feq_i ! ℕ (length zeros) (length zeros) refl $ fjoin ! $
          use1 𝓛 (‵ (part_at (Array u8 (length zeros)) full_share zeros b o)) (Array-whole 𝓛 u8 full_share (length zeros) zeros b o) $ none_made ! $ fjoin ! $
          suffices ! _ (ends_at 𝓛 F.ended stayed held z none bytes (tt, (tt, (tt, tt))) (tt, (tt, (tt, tt)))) $ says ! (sym at, refl) $
          nothing ! $ nothing ! $ fjoin ! $ nothing ! $ fjoin ! $ nothing ! $ fjoin ! $ nothing ! $ done !

      abbrev Left : Type 0
      Left = (i : ℕ) × (i ≤ n)

      abbrev Nearer : Left → Left → Type 0
      Nearer t u = n - t.0 < n - u.0

      module _ (l : ℕ → ℕ) where
        abbrev En : Env 𝓤 H
        En = env code.function.locals l

        -- the room that is left, and the zeros before it
        abbrev Now : Left → List (Item 𝓤)
        Now t = ‵ (froom (ty_array byte (n - t.0)) b (t.0 + o)) ∷ ‵ (row u8 full_share (replicate t.0 0) b o) ∷ holding 𝓛 En ((1, none) ∷ (2, vptr b o) ∷ (3, vint w64 n) ∷ (4, vint w64 t.0) ∷ [])

        abbrev Turned : Left → Out → SProp 𝓤
        Turned t = after_turn 𝓤 H (Below 𝓛 Nearer Now t) (after_block 𝓤 H (after_seq 𝓤 H (Wp 𝓤 H 𝓣.C 𝓣.Λ En code.Mir.t-3 (at_return 𝓤 H En Post)) (at_return 𝓤 H En Post)))

        turns : (t : Left) → Sq 𝓛 (Now t) (runs 𝓣.C 𝓣.Λ En turn (any_q (Turned t)))
        unfolding after_turn
        turns t =
            let i : ℕ = t.0 in let le = t.1 in
            sets ! (bin ! (get ! refl) (get ! refl) tt) refl (tt, tt) $ first ! $ branches ! (get ! refl)
            (λ less. let inside : i < n = ltb→lt i n less in let next : i + 1 < 2 ^ 64 = omega arith in let one_more : i + 1 ≡ suc i = omega arith in
            skips ! $ exec ! 𝓣.C 𝓣.Λ En writes (any_q (Turned t)) $ first ! $ blocks ! $
            sets ! (bin ! (get ! refl) (get ! refl) tt) refl (tt, tt) $
            use1 𝓛 (‵ (froom byte b (i + o)) ⊛ ‵ (froom (ty_array byte (n - suc i)) b (suc i + o))) (room_first 𝓛 n i b o inside) $ split ! $
            assigns_last ! (of_opd ! (lit ! tt)) (through ! refl (stop !)) (init ! 0 refl (tt, record { fits = lit< tt })) $ exec ! 𝓣.C 𝓣.Λ En counts (any_q (Turned t)) $
            sets_last ! (bin ! (get ! refl) (lit ! tt) (record { fits = next })) refl (tt, record { fits = next }) $
            use1 𝓛 (‵ (part_at u8 full_share 0 b (i + o))) (uint_in 𝓛 full_share w8 0 b (i + o)) $
            -- [the byte; the room that is left; the zeros before it; the locals]
            move ! (2 ∷ 0 ∷ []) $ use2 𝓛 (‵ (row u8 full_share (replicate (suc i) 0) b o)) (row_snoc 𝓛 i b o) $ move ! (1 ∷ 0 ∷ []) $
            forget_but ! En (1 ∷ 2 ∷ 3 ∷ 4 ∷ []) refl $ take_at ! 4 $ rewrite ! 0 (λ (k : ℕ). ‵ (fat full_share (ty_int w64) (l 4) zero (vint w64 k))) one_more refl $ give_at ! 4 $
            again ! Nearer Now t (suc i, omega arith) (omega arith))
            (λ over. let ge : n ≤ i = nltb→le i n over in let all : i ≡ n = omega arith in
            jumps ! $ exec ! 𝓣.C 𝓣.Λ En code.Mir.t-3 (at_ret En Post) $ drop ! $ rewrite ! 0 (λ (k : ℕ). ‵ (row u8 full_share (replicate k 0) b o)) all refl $
            sets ! (agg ! (no_more !)) refl (tt, tt) $ returns ! (look_at ! 0 refl) $ free_all ! refl $ by ! exits)

      goes : ent 𝓤 (H.room (ty_array byte n) b o) (WpFn 𝓤 H 𝓣.C 𝓣.Λ code.function (none ∷ vptr b o ∷ vint w64 n ∷ []) Post)
      goes =
          let all : n ≡ n - 0 = omega arith in
          let from : o ≡ 0 + o = omega arith in
          qed 𝓛 (‵ (froom (ty_array byte n) b o) ∷ []) ∵
          rewrite ! 0 (λ (k : ℕ). ‵ (froom (ty_array byte k) b o)) all refl $ rewrite ! 0 (λ (k : ℕ). ‵ (froom (ty_array byte (n - 0)) b k)) from refl $
          use0 𝓛 (‵ (row u8 full_share [] b o)) (id⊢ 𝓤 _) $ move ! (1 ∷ 0 ∷ []) $
          enter ! 𝓣.C 𝓣.Λ code.function (none ∷ vptr b o ∷ vint w64 n ∷ []) Post $ alloc_all ! (λ l. pass_all ! refl ((tt, tt), ((tt, tt), ((tt, record { fits = fits }), tt))) $
          sets ! (of_opd ! (lit ! tt)) refl (tt, record { fits = lit< tt }) $ forget_but ! (En l) (1 ∷ 2 ∷ 3 ∷ 4 ∷ []) refl $
          first ! $ blocks ! $ loops ! 𝓣 Nearer (InvImage.wf (λ (t : Left). n - t.0) lt-wf_rel.wf) (Now l) (turns l) (0, omega arith))

    walks : ent 𝓤 ((walk_of 𝓛 F.ended stayed held).pre z) (WpFn 𝓤 H 𝓣.C 𝓣.Λ code.function ((walk_of 𝓛 F.ended stayed held).args z) Post)
    walks =
        let a = z.0.3 in
        let vss = z.0.4 in
        let p = a.1.0 in
        let Asked = (a.0.at ≡ p) × (a.0.len ≡ n) in
        qed 𝓛 ((raw (alive 𝓛 F.ended.signature z.0.0 z.0.1) ⊛ ‵ (owns (types_at F.ended.signature.params z.0.0) a vss)) ∷ (raw (fact 𝓤 (n < 2 ^ 63)) ⊛ raw (fact 𝓤 Asked)) ∷ []) ∵
        move ! (1 ∷ []) $ split ! $ heard ! (n < 2 ^ 63) (λ small. heard ! Asked (λ asked. split ! $ drop ! $
        fsplit ! $ fsplit ! $ none_had ! vss.0 (λ is₀. move ! (1 ∷ []) $ fsplit ! $ feq_l ! (λ is₁. fsplit ! $ fsplit ! $ feq_l ! (λ is₂. flt_l ! (λ fits. drop ! $
        rewrite ! 0 (λ (r : Ptr × ℕ). ‵ (owned_room r.0 r.1)) (λ i. (asked.0 i, asked.1 i)) refl $
        in_a_block ! p (λ q. owned_room q n) (id⊢ 𝓤 (never 𝓤)) (λ b o at.
        regoal ! (λ (us : List Val). prop (WpFn 𝓤 H 𝓣.C 𝓣.Λ code.function (us ++ (vss.1.0 ++ (vss.1.1.0 ++ []))) Post)) is₀ refl $
        regoal ! (λ (us : List Val). prop (WpFn 𝓤 H 𝓣.C 𝓣.Λ code.function ((none ∷ []) ++ (us ++ (vss.1.1.0 ++ []))) Post)) (is₁ ∙ ap (λ r. ptr_val r ∷ []) at) refl $
        regoal ! (λ (us : List Val). prop (WpFn 𝓤 H 𝓣.C 𝓣.Λ code.function ((none ∷ []) ++ ((vptr b o ∷ []) ++ (us ++ []))) Post)) is₂ refl $
        by ! (goes b o at fits))))))))

  meets : (𝓣 : Tables 𝓤 H) → Meets 𝓛 F.ended.signature (WpFn 𝓤 H 𝓣.C 𝓣.Λ code.function) (closing 𝓛 F.ended held)
  meets 𝓣 =
      walk_Meets 𝓛 F.ended stayed (Goes-blank 𝓛 0 (plain (λ _. R.the_row)) yes (λ κs x f. tt), (Goes-dropped 𝓛 0 (plain (λ _. RawPtr)) yes (λ κs x f. refl), (Goes-dropped 𝓛 0 (plain (λ _. usize)) yes (λ κs x f. refl), tt))) held
      (WpFn 𝓤 H 𝓣.C 𝓣.Λ code.function) (WpFn-mono 𝓤 H 𝓛.laws 𝓣 code.function) (walks 𝓣)

pub write_zeros_spec : {M : Type 1} → stated.statement M
unfolding tables_of
write_zeros_spec 𝓤 𝓛 𝓜 𝓡 wired =
    let 𝓣 : Tables 𝓤 𝓛.H = tables_of 𝓤 𝓛.H 𝓜 (tables 𝓤 𝓛.H 𝓜 𝓡 𝓡.env) in
    entered 𝓤 𝓛.H (triple_of 𝓛 F.ended.signature (closing 𝓛 F.ended (held 𝓛 𝓜.mem 𝓡.returns))) 𝓣.C 𝓣.Λ #self code.function
    (code.unfolded 𝓤 𝓛.H 𝓜 𝓡 wired) (meets 𝓛 𝓜.mem 𝓡.returns 𝓣)

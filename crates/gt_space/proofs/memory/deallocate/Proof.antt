-- `deallocate` makes room of the bytes, and hands it back with the right to do so. Assumes `Logic`.
use Rattle.std.proofs.Common.{◌≡◌, ℕ, ◌*◌, ◌^◌, ◌<◌, List, [], ◌∷◌, ◌++◌, length, refl, ap, ◌∙◌, arith, lit<, w64}
use base.Fraction.{full_share}
use mir.Syntax.{Ty, Fn, Args, a_type, dcons, dnil, place, ty_array}
use mir.Val.{Val, vint, vptr, vunit}
use mir.MapTy.{inst_fn}
use base.Logic.{SProp, never, id⊢}
use base.Fml.{Lft, Share, ftrue, fsep, feq, froom, flft}
use prog.Capped.{capped_is}
use prog.Wp.{Env, WpFn}
use contract.BorrowLft.{◌⊑◌, ⊑_trans}
use contract.Monad.{fact}
use contract.Running.{tables}
use types.Kit.{‵, raw, ◌⊛◌, given, later, prop, settles, at_ret, ◌$◌, ◌∵◌, !, qed, by, move, drop, use1, use3, split, join, learn, rewrite, regoal, fsplit, fjoin, feq_l, feq_i, flt_l, await}
use types.Run.{lit, unit_lit, of_opd, no_more, and_then, first, blocks, exec, returns, enter}
use types.ByLocal.{alloc_all, pass_all, free_all, look_at, get, sets, lands_last, env}
use denote.ArrayMemory.{Array-apart}
use denote.Builtin.{u8}
use denote.Index.{row}
use denote.RattleType.{RattleType, owns}
use denote.RawPtr.{Ptr, ptr_val, in_a_block}
use denote.Param.{param, bounded}
use denote.Signature.{types_at}
use denote.Steps.{nothing, heard}
use denote.Triple.Entry.{alive}
use denote.Triple.Call.{calls_at_last}
use denote.Triple.Table.{framed}
use denote.Triple.Walked.{Stays, stay_dropped, walk_of, Goes-dropped}
use Rattle.std.proofs.alloc.Calls.{Al, seen, Goes-blank, Gives, at_gives, Gives-goes, Gives-Gives}
use Rattle.std.proofs.alloc.Shapes.{after}
use Rattle.std.proofs.raw_atomic.Walks.{proved_at, leaves}
use Rattle.gt_space.specs.Memory.{block_type, owned_bytes, owned_token}
use Rattle.gt_space.proofs.MemorySteps.{none, mark, byte, none_had, mark_had, row_room, slot_at, then_runs, out_of_block}
use Rattle.gt_space.specs.contracts.memory.deallocate.{ended, clauses}
use Rattle.gt_space.specs.contracts.memory.deallocate.Key.{name as #self}
use Rattle.gt_space.proofs.memory.deallocate.Statement.{statement}
use Rattle.gt_space.proofs.memory.deallocate.Code as compiled

pub deallocate_spec : {M : Type 1} → statement M
deallocate_spec 𝓤 𝓛 𝓜 𝓡 wired A L g d dd met md =
    let H = 𝓛.H in
    let En₀ = ended A g d dd in
    let c = clauses A g d dd 𝓛 𝓜.mem 𝓡.returns in
    let args : Args = bounded (a_type ∷ []) (A, tt) (dcons d (dcons dd dnil)) in
    let fn : Fn = inst_fn args compiled.function in
    let ps = En₀.signature.params in
    let ks = En₀.kept in
    let stays : Stays ps ks = (stay_dropped (slot_at 0 ps) ks.0, (stay_dropped (slot_at 1 ps) ks.1.0, (stay_dropped (slot_at 2 ps) ks.1.1.0, (stay_dropped (slot_at 3 ps) ks.1.1.1.0, (stay_dropped (slot_at 4 ps) ks.1.1.1.1.0, tt))))) in
    let C = (tables 𝓤 H 𝓜 𝓡 𝓡.env).C in
    let Λ = (tables 𝓤 H 𝓜 𝓡 𝓡.env).Λ in
    proved_at 𝓛 En₀ stays c 𝓜 𝓡
    (Goes-dropped 𝓛 2 (slot_at 0 ps) ks.0 (λ κs x f. refl), (Goes-dropped 𝓛 2 (slot_at 1 ps) ks.1.0 (λ κs x f. refl), (Goes-dropped 𝓛 2 (slot_at 2 ps) ks.1.1.0 (λ κs x f. refl), (Goes-blank 𝓛 2 (slot_at 3 ps) ks.1.1.1.0 (λ κs x f. tt), (Goes-blank 𝓛 2 (slot_at 4 ps) ks.1.1.1.1.0 (λ κs x f. tt), tt)))))
    (#self args) fn (compiled.unfolded 𝓤 H 𝓜 𝓡 wired (A, tt) d dd) (λ z are.
    let Post : Val → SProp 𝓤 = (walk_of 𝓛 En₀ stays c).post z in
    let a = z.0.3 in
    let vss = z.0.4 in
    let Y : Al = record { row = A; laws = L; g = g; d = d; drops = dd } in
    let κ : Lft = z.0.0.0 in
    let q : Share = z.0.1.0 in
    let Z : RattleType = param 0 A in
    let h = a.0.now in
    let handle = a.0.ref_ptr in
    let p = a.1.0 in
    let n = a.1.1.0 in
    let bytes = a.1.1.1.0 in
    let deed = a.1.1.1.1.0 in
    let xs = bytes.items in
    let τ : Ty = block_type n in
    let Lies : Type 0 = (bytes.at ≡ p) × (length xs ≡ n) in
    let Owed : Type 0 = (deed.at ≡ p) × (deed.len ≡ n) × (deed.alloc ≡ h) in
    qed 𝓛 ((raw (alive 𝓛 En₀.signature z.0.0 z.0.1) ⊛ ‵ (owns (types_at En₀.signature.params z.0.0) a vss)) ∷ (raw (fact 𝓤 (z.0.0.1.0 ⊑ A.lives)) ⊛ raw (fact 𝓤 (n < 2 ^ 63)) ⊛ raw (fact 𝓤 Lies) ⊛ raw (fact 𝓤 Owed)) ∷ []) ∵
    move ! (1 ∷ []) $ split ! $ heard ! (z.0.0.1.0 ⊑ A.lives) (λ le. split ! $ heard ! (n < 2 ^ 63) (λ small. split ! $ heard ! Lies (λ lies. heard ! Owed (λ owed. split ! $ move ! (1 ∷ []) $
    -- [what the parameters own; the tokens]
    fsplit ! $ fsplit ! $ feq_l ! (λ is₀. use1 𝓛 (‵ (seen Y κ handle h)) (id⊢ 𝓤 _) $ move ! (1 ∷ []) $
    fsplit ! $ feq_l ! (λ is₁. fsplit ! $ fsplit ! $ feq_l ! (λ is₂. flt_l ! (λ fits.
    fsplit ! $ fsplit ! $ none_had ! vss.1.1.1.0 (λ is₃. use1 𝓛 (‵ (owned_bytes bytes.at xs)) (id⊢ 𝓤 _) $ move ! (1 ∷ []) $
    fsplit ! $ fsplit ! $ mark_had ! vss.1.1.1.1.0 (λ is₄. use1 𝓛 (‵ (owned_token (g.dealloc_token deed.alloc) deed.at deed.len)) (id⊢ 𝓤 _) $ move ! (1 ∷ []) $ drop ! $
    -- [the right to give back; the bytes; the handle; the tokens]
    move ! (1 ∷ []) $ rewrite ! 0 (λ (r : Ptr). ‵ (owned_bytes r xs)) lies.0 refl $ in_a_block ! p (λ r. owned_bytes r xs) (id⊢ 𝓤 (never 𝓤)) (λ b o at.
    use1 𝓛 (‵ (fsep (feq ℕ (length xs) (length xs)) (row u8 full_share xs b o))) (Array-apart 𝓛 u8 full_share tt (length xs) xs b o) $ fsplit ! $ drop ! $
    use1 𝓛 (‵ (froom (ty_array byte (length xs)) b o)) (row_room 𝓛 xs b o) $ rewrite ! 0 (λ (k : ℕ). ‵ (froom (ty_array byte k) b o)) lies.1 refl $
    rewrite ! 1 (λ (u : A.Denot × ℕ × Ptr). ‵ (owned_token (g.dealloc_token u.0) u.2 u.1)) (λ i. (owed.2 i, owed.1 i, (owed.0 ∙ at) i)) refl $
    move ! (3 ∷ []) $ use1 𝓛 (‵ (flft κ q) ⊛ ‵ (flft z.0.0.1.0 z.0.1.1.0) ⊛ ‵ ftrue) (id⊢ 𝓤 _) $ split ! $
    -- [a token; the others; the memory; the right to give it back; the handle]
    move ! (4 ∷ 0 ∷ []) $ join ! $ move ! (2 ∷ 3 ∷ 0 ∷ []) $
    let y = at_gives Y 𝓛 𝓜.mem 𝓡.returns κ q handle h b o n 1 τ in
    regoal ! (λ (us : List Val). prop (WpFn 𝓤 H C Λ fn us Post)) (λ i. is₀ i ++ ((is₁ ∙ ap (λ (r : Ptr). ptr_val r ∷ []) at) i ++ (is₂ i ++ (is₃ i ++ (is₄ i ++ []))))) refl $
    enter ! C Λ fn (vptr handle.0 handle.1 ∷ vptr b o ∷ vint w64 n ∷ none ∷ mark ∷ []) Post $
    alloc_all ! (λ l. pass_all ! refl ((tt, tt), ((tt, tt), ((tt, record { fits = fits }), ((tt, tt), ((tt, (tt, tt)), tt))))) $ let En : Env 𝓤 𝓛.H = env fn.locals l in
    first ! $ blocks ! $
    use3 𝓛 (raw ((Gives Y 𝓛 𝓜.mem 𝓡.returns).pre y)) (Gives-goes Y 𝓛 𝓜.mem 𝓡.returns κ q handle h (⊑_trans κ z.0.0.1.0 A.lives z.0.2.0 le) b o n 1 τ (capped_is (n * 1) (omega arith) ∙ omega arith) refl fits (lit< tt)) $
    calls_at_last ! (framed 𝓤 H 𝓜 (tables 𝓤 H 𝓜 𝓡 𝓡.env)) (Gives Y 𝓛 𝓜.mem 𝓡.returns) (met.deallocate dd) y (and_then ! (get ! refl) (and_then ! (get ! refl) (and_then ! (get ! refl) (and_then ! (lit ! tt) (no_more !))))) (λ v.
    use1 𝓛 (later (given (v ≡ vunit) (‵ (flft κ q)))) (Gives-Gives Y 𝓛 𝓜.mem 𝓡.returns κ q handle h b o n 1 τ v) $ await ! tt $ learn ! (λ e. join ! $
    regoal ! (λ (u : Val). settles En (place 6 []) u (out_of_block 𝓛 (then_runs 𝓛 C Λ En (after 1 fn.body) (at_ret En Post)))) (e) refl $ lands_last ! refl (tt, tt) $
    exec ! C Λ En (after 1 fn.body) (at_ret En Post) $
    sets ! (of_opd ! (unit_lit !)) refl (tt, tt) $
    returns ! (look_at ! 0 refl) $ free_all ! refl $
    feq_i ! (List Val) (vunit ∷ []) (vunit ∷ []) refl $ nothing ! $ nothing ! $ nothing ! $ fjoin ! $ nothing ! $ fjoin ! $ nothing ! $ fjoin ! $ nothing ! $ fjoin ! $ nothing ! $ fjoin ! $ move ! (3 ∷ 0 ∷ 2 ∷ 1 ∷ []) $
    by ! (leaves 𝓛 En₀ stays c z vunit tt (tt, (tt, (tt, (tt, (tt, tt))))) (tt, (tt, (tt, (tt, (tt, tt)))))))))))))))))))))

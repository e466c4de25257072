-- `as_slice` shows the bytes that a `&` to the block lends. Assumes `Logic`.
use Rattle.std.proofs.Common.{◌≡◌, ◌*◌, ◌^◌, ◌<◌, List, [], ◌∷◌, ◌++◌, length, refl, sym, ap, ◌∙◌, arith, w64}
use seplogic.Ra.Ura.{Ura}
use mir.Val.{Val, vptr, vint}
use base.Logic.{SProp, ent, never, fst∗}
use base.Fml.{Lft}
use prog.Memory.{Memory}
use prog.Routine.{Routine}
use prog.Wp.{Calls, Loops, WpFn, Tables}
use contract.Monad.{Fun, fact}
use contract.Running.{tables, tables_of}
use sound.WpLaws.{WpFn-mono}
use types.Logic.{Logic, sem}
use types.Kit.{‵, raw, ◌⊛◌, prop, ◌$◌, ◌∵◌, !, qed, move, drop, split, fsplit, fjoin, feq_l, feq_i, regoal, suffices, done, at_ret, flt_l, flt_i}
use types.Part.{agg}
use types.Run.{enter, returns, of_opd, and_then, no_more, first, blocks, exec}
use types.ByLocal.{alloc_all, pass_all, free_all, look_at, get, sets, sets_last, env}
use denote.Exit.{yes}
use denote.RattleType.{owns}
use denote.Array.{Array}
use denote.Builtin.{u8, RefOf, RawPtr, usize}
use denote.Signature.{plain, types_at}
use denote.Steps.{nothing, heard}
use denote.Memory.{shared_of}
use denote.Opens.{unhide, hide}
use denote.RawPtr.{block_ptr, ptr_val, in_a_block}
use denote.Slice.{slice_val}
use denote.Triple.Clauses.{Clauses, closing}
use denote.Triple.Entry.{alive}
use denote.Triple.Spec.{Meets, triple_of}
use denote.Triple.Table.{entered}
use denote.Triple.Walked.{says, Stays, stay_dropped, walk_of, ends_at, walk_Meets, Goes-dropped}
use Rattle.gt_space.specs.Memory.{lent_bytes}
use Rattle.gt_space.specs.contracts.memory.Bytes as B
use Rattle.gt_space.specs.contracts.memory.Bytes.as_slice as F
use Rattle.gt_space.specs.contracts.memory.Bytes.as_slice.Key.{name as #self}
use Rattle.gt_space.proofs.memory.Bytes.as_slice.Statement as stated
use Rattle.gt_space.proofs.memory.Bytes.as_slice.Code as code

abbrev stayed : Stays F.ended.signature.params F.ended.kept
stayed = (stay_dropped (RefOf (0 ∷ []) tt (plain (λ _. B.the_row)) (λ _. tt)) yes, (stay_dropped (plain (λ _. RawPtr)) yes, (stay_dropped (plain (λ _. usize)) yes, tt)))

module _ {M : Type 1} {𝓤 : Ura M} (𝓛 : Logic 𝓤) (at_mem : Memory → SProp 𝓤) (run : Routine → Fun 𝓤) where
  open 𝓛 use {H}

  abbrev held : Clauses 𝓤 F.ended
  held = F.clauses 𝓛 at_mem run

  module _ (C : Calls 𝓤 H) (Λ : Loops 𝓤 H) (z : (walk_of 𝓛 F.ended stayed held).Ghost) where
    abbrev Post : Val → SProp 𝓤
    Post = (walk_of 𝓛 F.ended stayed held).post z

    walks : ent 𝓤 ((walk_of 𝓛 F.ended stayed held).pre z) (WpFn 𝓤 H C Λ code.function ((walk_of 𝓛 F.ended stayed held).args z) Post)
    walks =
        let a = z.0.3 in
        let vss = z.0.4 in
        let d = a.0.now in
        let p = a.1.0 in
        let n = a.1.1.0 in
        let xs = d.items in
        let κ : Lft = z.0.0.0 in
        let Asked = (d.at ≡ p) × (length xs ≡ n) in
        qed 𝓛 ((raw (alive 𝓛 F.ended.signature z.0.0 z.0.1) ⊛ ‵ (owns (types_at F.ended.signature.params z.0.0) a vss)) ∷ (raw (fact 𝓤 (n < 2 ^ 63)) ⊛ raw (fact 𝓤 Asked)) ∷ []) ∵
        move ! (1 ∷ []) $ split ! $ heard ! (n < 2 ^ 63) (λ small. heard ! Asked (λ asked. split ! $ move ! (1 ∷ []) $
        let long : length xs ≡ n = asked.1 in
        -- [what the three parameters own; the token]
        fsplit ! $ fsplit ! $ feq_l ! (λ is₀. unhide ! $ fsplit ! $ drop ! $
        in_a_block ! d.at (λ q. lent_bytes q xs κ) (fst∗ 𝓤 (never 𝓤) (sem 𝓛 (shared_of (Array u8 (length xs)) xs 0 0 κ))) (λ b o e. fsplit ! $ drop ! $ fsplit ! $ drop ! $ hide ! $ move ! (1 ∷ []) $
        fsplit ! $ feq_l ! (λ is₁. fsplit ! $ fsplit ! $ feq_l ! (λ is₂. flt_l ! (λ fits. drop ! $
        let at : p ≡ block_ptr b o = sym asked.0 ∙ e in
        regoal ! (λ (us : List Val). prop (WpFn 𝓤 H C Λ code.function (us ++ (vss.1.0 ++ (vss.1.1.0 ++ []))) Post)) is₀ refl $
        regoal ! (λ (us : List Val). prop (WpFn 𝓤 H C Λ code.function ((vptr a.0.ref_ptr.0 a.0.ref_ptr.1 ∷ []) ++ (us ++ (vss.1.1.0 ++ []))) Post)) (is₁ ∙ ap (λ r. ptr_val r ∷ []) at) refl $
        regoal ! (λ (us : List Val). prop (WpFn 𝓤 H C Λ code.function ((vptr a.0.ref_ptr.0 a.0.ref_ptr.1 ∷ []) ++ ((vptr b o ∷ []) ++ (us ++ []))) Post)) is₂ refl $
        enter ! C Λ code.function (vptr a.0.ref_ptr.0 a.0.ref_ptr.1 ∷ vptr b o ∷ vint w64 n ∷ []) Post $ alloc_all ! (λ l. pass_all ! refl ((tt, tt), ((tt, tt), ((tt, record { fits = fits }), tt))) $
        -- [the bytes that are lent; the token; the locals]
        first ! $ blocks ! $
        sets_last ! (agg ! (and_then ! (get ! refl) (and_then ! (get ! refl) (no_more !)))) refl (tt, (tt, (record { fits = fits }, tt))) $
        exec ! C Λ (env code.function.locals l) code.Mir.t-2 (at_ret (env code.function.locals l) Post) $
        sets ! (of_opd ! (get ! refl)) refl (tt, (tt, (record { fits = fits }, tt))) $
        flt_i ! (length xs * 1) (2 ^ 63) (omega (arith, small, long)) $ flt_i ! (length xs) (2 ^ 64) (omega (arith, small, long)) $ fjoin ! $
        feq_i ! (List Val) (slice_val (b, o) n ∷ []) (slice_val (b, o) (length xs) ∷ []) (ap (λ k. slice_val (b, o) k ∷ []) (sym long)) $ fjoin ! $ fjoin ! $
        returns ! (look_at ! 0 refl) $ free_all ! refl $
        suffices ! _ (ends_at 𝓛 F.ended stayed held z (slice_val (b, o) n) (record { ref_ptr = (b, o); now = xs }) (tt, (tt, (tt, tt))) (tt, (tt, (tt, tt)))) $ says ! refl $
        nothing ! $ nothing ! $ fjoin ! $ nothing ! $ fjoin ! $ nothing ! $ fjoin ! $ move ! (2 ∷ 0 ∷ 1 ∷ []) $ done !))))))))

  meets : (𝓣 : Tables 𝓤 H) → Meets 𝓛 F.ended.signature (WpFn 𝓤 H 𝓣.C 𝓣.Λ code.function) (closing 𝓛 F.ended held)
  meets 𝓣 =
      walk_Meets 𝓛 F.ended stayed (Goes-dropped 𝓛 1 (RefOf (0 ∷ []) tt (plain (λ _. B.the_row)) (λ _. tt)) yes (λ κs x f. refl), (Goes-dropped 𝓛 1 (plain (λ _. RawPtr)) yes (λ κs x f. refl), (Goes-dropped 𝓛 1 (plain (λ _. usize)) yes (λ κs x f. refl), tt))) held
      (WpFn 𝓤 H 𝓣.C 𝓣.Λ code.function) (WpFn-mono 𝓤 H 𝓛.laws 𝓣 code.function) (walks 𝓣.C 𝓣.Λ)

pub as_slice_spec : {M : Type 1} → stated.statement M
unfolding tables_of
as_slice_spec 𝓤 𝓛 𝓜 𝓡 wired =
    let 𝓣 : Tables 𝓤 𝓛.H = tables_of 𝓤 𝓛.H 𝓜 (tables 𝓤 𝓛.H 𝓜 𝓡 𝓡.env) in
    entered 𝓤 𝓛.H (triple_of 𝓛 F.ended.signature (closing 𝓛 F.ended (held 𝓛 𝓜.mem 𝓡.returns))) 𝓣.C 𝓣.Λ #self code.function
    (code.unfolded 𝓤 𝓛.H 𝓜 𝓡 wired) (meets 𝓛 𝓜.mem 𝓡.returns 𝓣)

use Rattle.std.proofs.Common.{◌≡◌, ◌∙◌, ap, ap₂, true}
use Rattle.std.proofs.lemmas.Result.{IfOk-weaker}
use Rattle.std.specs.Prelude.{codes}
use Rattle.clap.specs.Simple.{App, app_of, app_of_fields, new_app, on_top, with_rule}
use Rattle.gt_words.specs.Commands.{our_app}
use Rattle.gt_words.proofs.command.command.Goals as goal

-- no word is the program's name
abbrev bare : App → App
bare = on_top (λ top. record top { no_binary_name = true })

pub returns : goal.returns
unfolding our_app
returns c =
    let named : app_of c.no_binary_name.result ≡ bare (new_app (codes "gtyheap")) = ap app_of_fields c.no_binary_name.ensures ∙ ap bare c.new.ensures.app in
    let space = c.in_ok-arg.ensures.shape c.option.ensures.local ∙ ap₂ with_rule named c.option.ensures.rule in
    let expand = c.in_ok-arg-2.ensures.shape c.option-2.ensures.local ∙ ap₂ with_rule space c.option-2.ensures.rule in
    let heapsize = c.in_ok-arg-3.ensures.shape c.option-3.ensures.local ∙ ap₂ with_rule expand c.option-3.ensures.rule in
    let script = c.in_ok-arg-4.ensures.shape c.script.ensures.local ∙ ap₂ with_rule heapsize c.script.ensures.rule in
    IfOk-weaker c.arg-5.result _ _ (λ app h. h.shape c.header.ensures.local ∙ ap₂ with_rule script c.header.ensures.rule) c.arg-5.ensures

use Rattle.std.proofs.Common.{◌≡◌, ◌∙◌, ap, sym, map, arith, length-append, Err}
use Rattle.std.proofs.lemmas.Result.{err_from_is_err_and}
use Rattle.std.specs.String.{string_bytes}
use Rattle.page_host.specs.declared.faults.HostFault.TheVariants.{NotYet}
use Rattle.page_host.specs.Scripts.{files_in, userscripts_in}
use Rattle.page_host.proofs.Reading.{count_of, item_at, named_more, named_twice, new_name, one_held, unread_at}
use Rattle.page_host.proofs.ScriptLists.{scripts_more}
use Rattle.page_host.proofs.scripts.scripts_in.Goals as goal

pub returns-in_err-script-clause-not_yet : goal.returns-in_err-script-clause-not_yet
returns-in_err-script-clause-not_yet g c =
    let p = err_from_is_err_and c.from_residual.result c.from_residual.ensures.1 in
    let i = c.loop-name.name-index in
    let within = c.loop-name-test.true in
    let at = item_at string_bytes c.args.files.now i c.name-item.result c.as_str-file.result.now c.as_str-file.ensures.value within c.name-item.is in
    rw (p.1, p.2)
    (λ is.
    let not_yet : c.in_err-script.field-0.0 ≡ NotYet = cc in
    unread_at (g.F.Folder.files c.args.folder.now) (g.F.Folder.files c.loop-name.folder) (map string_bytes c.args.files.now) i c.as_str-file.result.now c.loop-name.invariant.same (count_of string_bytes c.args.files.now i within) at
    (c.in_err-script.ensures.not_yet (ap (λ e. Err e) not_yet)))

pub returns-then-has_name-clause-not_yet : goal.returns-then-has_name-clause-not_yet
returns-then-has_name-clause-not_yet g c =
    let i = c.loop-name.name-index in
    let within = c.loop-name-test.true in
    let at = item_at string_bytes c.args.files.now i c.name-item.result c.as_str-file.result.now c.as_str-file.ensures.value within c.name-item.is in
    λ _.
    named_twice c.userscripts_are_read_one_way.ensures (g.F.Folder.files c.args.folder.now) (g.F.Folder.files c.loop-name.folder) (map string_bytes c.args.files.now) i c.as_str-file.result.now (userscripts_in c.loop-name.scripts.items) c.in_ok-script.script
    c.loop-name.invariant.same (count_of string_bytes c.args.files.now i within) at c.loop-name.invariant.held c.loop-name.invariant.forms c.loop-name.invariant.count c.in_ok-script.ensures.held c.in_ok-script.ensures.form
    (rw c.as_slice.ensures.value at (sym c.has_name.ensures ∙ c.if-has_name.true))

pub loop-name-preserved : goal.loop-name-preserved
loop-name-preserved g c =
    let i = c.loop-name.name-index in
    let within = c.loop-name-test.true in
    let at = item_at string_bytes c.args.files.now i c.name-item.result c.as_str-file.result.now c.as_str-file.ensures.value within c.name-item.is in
    rw (c.in_ok-keep.ensures.files, c.in_ok-keep.ensures.scripts)
    (record {
      same = c.in_ok-script.ensures.same ∙ c.loop-name.invariant.same;
      steady = c.in_ok-script.ensures.steady ∙ c.loop-name.invariant.steady;
      named = named_more (map string_bytes c.args.files.now) i c.as_str-file.result.now (files_in c.loop-name.scripts.items) (count_of string_bytes c.args.files.now i within) at c.loop-name.invariant.named;
      held =
          one_held (g.F.Folder.files c.args.folder.now) (g.F.Folder.files c.loop-name.folder) (map string_bytes c.args.files.now) i c.as_str-file.result.now (userscripts_in c.loop-name.scripts.items) c.in_ok-script.script c.loop-name.invariant.same
          (count_of string_bytes c.args.files.now i within) at c.loop-name.invariant.held c.in_ok-script.ensures.held;
      count = simp length-append (omega (arith, c.loop-name.invariant.count));
      forms = scripts_more (userscripts_in c.loop-name.scripts.items) c.in_ok-script.script c.loop-name.invariant.forms c.in_ok-script.ensures.form;
      distinct = new_name (userscripts_in c.loop-name.scripts.items) c.in_ok-script.script c.loop-name.invariant.distinct (rw c.as_slice.ensures.value at (sym c.has_name.ensures ∙ c.if-has_name.false));
    })

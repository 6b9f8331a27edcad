use Rattle.std.proofs.Common.{map}
use Rattle.std.proofs.lemmas.Result.{err_from_is_err_and}
use Rattle.std.specs.String.{string_bytes}
use Rattle.page_host.proofs.Running.{address_refused, folder_refused, run_right}
use Rattle.page_host.proofs.run.run.Goals as goal

pub returns-in_err-address-clause-refused : goal.returns-in_err-address-clause-refused
returns-in_err-address-clause-refused g c =
    let p = err_from_is_err_and c.from_residual.result c.from_residual.ensures.1 in
    rw (p.1, p.2)
    (λ _. address_refused _ (map string_bytes c.args.words.now) (g.F.Folder.files c.args.folder.now) c.in_err-address.field-0.0 c.in_err-address.ensures.usage.0 c.in_err-address.ensures.not_yet c.in_err-address.ensures.other)

pub returns-in_err-loaded-clause-refused : goal.returns-in_err-loaded-clause-refused
returns-in_err-loaded-clause-refused g c =
    let p = err_from_is_err_and c.from_residual-in_err-loaded.result c.from_residual-in_err-loaded.ensures.1 in
    rw (p.1, p.2)
    (folder_refused (map string_bytes c.args.words.now) (g.F.Folder.files c.args.folder.now) c.in_ok-address.address.now c.in_err-loaded.field-0.0 (record { command = c.in_ok-address.ensures.ok.0; plain = c.in_ok-address.ensures.ok.1 })
    c.in_err-loaded.ensures.refused)

pub returns-clause-right : goal.returns-clause-right
returns-clause-right g c =
    run_right (map string_bytes c.args.words.now) (g.F.Folder.files c.args.folder.now) c.in_ok-address.address.now c.in_ok-loaded.loaded c.in_ok-run_and_report.field-0 (record { command = c.in_ok-address.ensures.ok.0; plain = c.in_ok-address.ensures.ok.1 })
    c.in_ok-loaded.ensures.forms c.in_ok-loaded.ensures.told c.in_ok-run_and_report.ensures.output

use Rattle.page_host.specs.Loaded.{run_of_loaded}
use Rattle.page_host.specs.Scripts.{files_in}
use Rattle.page_host.proofs.Playing.{address_short}
use Rattle.page_host.proofs.Running.{all_reported}
use Rattle.page_host.proofs.run.run_and_report.Goals as goal

pub print-requires : goal.print-requires
print-requires c = c.in_ok-played.ensures.rooted

pub returns-clause-output : goal.returns-clause-output
returns-clause-output c =
    let address = c.args.address.now in
    let scripts = c.args.loaded.now.scripts.items in
    let is = rw c.as_slice.ensures.value at (c.in_ok-played.ensures.right address (address_short address c.requires.address)) in
    let given = run_of_loaded address c.args.loaded.now is.read_selector in
    record {
      read_selector = is.read_selector;
      right = is.right;
      reported = all_reported address (files_in scripts) given c.in_ok-played.played c.in_ok-document.document.items c.in_ok-report.report.items is.document c.in_ok-document.ensures.ok (rw (c.as_slice-2.ensures.value, c.as_slice-3.ensures.value) at c.in_ok-report.ensures);
    }

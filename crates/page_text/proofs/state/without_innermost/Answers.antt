use Rattle.std.proofs.Common.{◌≡◌, ℕ, ◌-◌, List, length, map, take, refl, ap}
use Rattle.std.proofs.lemmas.List.{take-map, length-map}
use Rattle.page_text.specs.declared.state.Open.{Open as ReadOpen}
use Rattle.page_text.specs.StepsModel.{Open, open_of, outer, state_of}
use Rattle.page_text.proofs.state.without_innermost.Goals as goal

outer_map : (all few : List ReadOpen) (n : ℕ) → n ≡ length all → few ≡ take (n - 1) all → map open_of few ≡ outer (map open_of all)
outer_map all few n e h = rw (h, e, ← take-map open_of (length all - 1) all, length-map all) refl

pub returns-clause-value : goal.returns-clause-value
returns-clause-value c =
    let s = c.args.s in
    let at = λ (xs : List Open). record (state_of s) { rest = c.args.rest.now; open_elements = xs } in
    ap at (outer_map s.open_elements.items c.pop.new.self.items _ s.open_elements.ok.0 c.pop.ensures.rest)

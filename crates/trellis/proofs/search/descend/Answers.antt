-- `search::descend` meets its contract: each turn goes one step back, by the last of the words that are left.
use Rattle.std.proofs.Common.{◌≡◌, ◌+◌, ◌-◌, [], ◌∷◌, ◌++◌, length, get_or, take, drop, sym, ap, ◌∙◌, refl, subst, arith}
use Rattle.std.proofs.lemmas.List.{get_or-take, get_or-drop, get_or_append_left, get_or_push, length-drop, length-take-le, length_push}
use Rattle.paths.specs.Survivors.{arrival}
use Rattle.paths.specs.Rows.{Passes, bit_of, bits_of}
use Rattle.paths.proofs.Tracing.{passes_down, passes_itself}
use Rattle.trellis.specs.Steps.{branch_by}
use Rattle.trellis.proofs.search.descend.Goals as goal

pub loop-word-init : goal.loop-word-init
loop-word-init g c =
    let C = (g.C.Code.trellis c.args.code.now).code in
    let ws = c.args.decisions.now in
    let n = c.args.steps - c.args.to in
    let rest = c.into_iter-word-iterator.result.iter.rest.now in
    let is : rest ≡ take n (drop c.args.to ws) = ap (λ x. x.iter.rest.now) c.into_iter-word-iterator.ensures.into_iter_gives ∙ ap (λ x. x.rest.now) c.rev-word-items.ensures.source ∙ c.iter.ensures.rest in
    let size : length rest ≡ n = ap length is ∙ length-take-le n (drop c.args.to ws) (omega (arith, length-drop c.args.to ws, c.requires.words, c.requires.short)) in
    let all : c.args.steps ≡ c.args.to + length rest = omega (arith, size, c.requires.short) in
    record {
      at = subst (λ k. Passes C (bits_of ws) c.args.steps c.args.end k c.args.end) all (passes_itself (g.C.Code.trellis c.args.code.now).lawful (bits_of ws) c.args.steps c.args.end c.requires.inside);
      words = λ k l. ap (λ xs. get_or xs k 0) is ∙ get_or-take n (drop c.args.to ws) k 0 (omega (arith, size, l)) ∙ get_or-drop c.args.to ws k 0;
      below = omega (arith, all);
    }

pub loop-word-preserved : goal.loop-word-preserved
loop-word-preserved g c =
    let C = (g.C.Code.trellis c.args.code.now).code in
    let ws = c.args.decisions.now in
    let rest = c.next.new.self.iter.rest.now in
    let w = c.in-Some.word.now in
    let was : c.loop-word.word-iterator.iter.rest.now ≡ rest ++ w ∷ [] = c.in-Some.ensures.steps in
    let size : length c.loop-word.word-iterator.iter.rest.now ≡ length rest + 1 = ap length was ∙ length_push rest w in
    let word : w ≡ get_or ws (c.args.to + length rest) 0 = sym (get_or_push rest w 0 (length rest) refl) ∙ ap (λ xs. get_or xs (length rest) 0) (sym was) ∙ c.loop-word.invariant.words (length rest) (omega (arith, size)) in
    let back : c.args.to + length c.loop-word.word-iterator.iter.rest.now - 1 ≡ c.args.to + length rest = omega (arith, size) in
    let here : branch_by c.entered_by.result ≡ arrival C (bits_of ws (c.args.to + length c.loop-word.word-iterator.iter.rest.now - 1) c.loop-word.state) c.loop-word.state =
    c.entered_by.ensures ∙ ap (λ v. arrival C (bit_of v c.loop-word.state) c.loop-word.state) (word ∙ ap (λ k. get_or ws k 0) (sym back)) in
    record {
      at = subst (Passes C (bits_of ws) c.args.steps c.args.end (c.args.to + length rest)) (sym c.from-state.ensures) (subst (λ k. Passes C (bits_of ws) c.args.steps c.args.end k c.entered_by.result.from) back (passes_down (g.C.Code.trellis c.args.code.now).lawful (bits_of ws) c.args.steps c.args.end (c.args.to + length c.loop-word.word-iterator.iter.rest.now) c.loop-word.state (branch_by c.entered_by.result) (omega (arith, size)) c.loop-word.invariant.at here));
      words = λ k l. sym (get_or_append_left rest (w ∷ []) 0 k l) ∙ ap (λ xs. get_or xs k 0) (sym was) ∙ c.loop-word.invariant.words k (omega (arith, size, l));
      below = omega (arith, size, c.loop-word.invariant.below);
    }

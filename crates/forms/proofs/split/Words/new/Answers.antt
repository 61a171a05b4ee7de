use Rattle.std.proofs.Common.{◌<◌, [], ◌∷◌, ◌++◌, length, map, ap, ◌∙◌, arith, rules}
use borrow.Author.Tests.{tests}
use lib.ListN.{length-map}
use Rattle.std.proofs.lemmas.List.{take_more_set, length_push}
use Rattle.std.proofs.lemmas.Iterator.Splits.{YieldsList-from_slice_split}
use Rattle.std.proofs.lemmas.Iterator.Consumers.{YieldsList-turn, YieldsList-end, YieldsList-at, YieldsList-from_filter}
use Rattle.forms.specs.Words.{most_words, parting, cut, spans}
use Rattle.forms.proofs.Splits.{some, all_parts}
use Rattle.forms.proofs.split.Words.new.Goals as goal
use Rattle.forms.proofs.split.Words.new.Goals.{In-Some}

-- there is room for the word
room : (c : In-Some) → c.loop-word.words.len < most_words
room c =
    let line = c.args.line.now in
    let turn = YieldsList-turn
    (YieldsList-at c.into_iter-word-iterator.ensures.into_iter_gives
    (YieldsList-from_filter _ some (YieldsList-at c.filter-word-items.ensures.source (YieldsList-from_slice_split _ parting line c.split.ensures.rest c.split.ensures.done c.split.ensures.closure (λ x b q k. search (rules, tests))))
    c.filter-word-items.ensures.closure (λ x b q k. search (rules, tests))))
    c.loop-word.yielded _ c.loop-word.yielded_by _ _ c.in-Some.word c.in-Some.is c.next.ensures.steps in
    omega (arith, turn.0, c.loop-word.invariant.many, ap length (all_parts line), length-map (spans line) (cut line), c.requires)

pub offset_bounds-words-words : goal.offset_bounds-words-words
offset_bounds-words-words c = let l = room (goal.at.offset_bounds-words-words c).In-Some in omega arith

pub bounds-words-words : goal.bounds-words-words
bounds-words-words c = room (goal.at.bounds-words-words c).In-Some

pub loop-word-preserved : goal.loop-word-preserved
loop-word-preserved c =
    let l = room (goal.at.loop-word-preserved c).In-Some in
    let i = c.loop-word.invariant in
    record {
      size = search (rules, i.size);
      many = omega (arith, length_push c.loop-word.yielded c.in-Some.word, i.many);
      each = take_more_set c.loop-word.words.parts c.loop-word.words.len c.in-Some.word (omega (arith, l, i.size)) ∙ ap (λ ws. ws ++ (c.in-Some.word ∷ [])) i.each;
    }

pub returns : goal.returns
returns c =
    let line = c.args.line.now in
    let end = YieldsList-end
    (YieldsList-at c.into_iter-word-iterator.ensures.into_iter_gives
    (YieldsList-from_filter _ some (YieldsList-at c.filter-word-items.ensures.source (YieldsList-from_slice_split _ parting line c.split.ensures.rest c.split.ensures.done c.split.ensures.closure (λ x b q k. search (rules, tests))))
    c.filter-word-items.ensures.closure (λ x b q k. search (rules, tests))))
    c.loop-word.yielded _ c.loop-word.yielded_by _ _ c.in-None.is c.next.ensures.steps in
    let each = ap (map (λ word. word.now)) c.loop-word.invariant.each ∙ end.0 ∙ all_parts line in
    record { many = ap length each ∙ length-map (spans line) (cut line); each = each }

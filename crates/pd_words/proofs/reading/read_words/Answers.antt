use Rattle.std.proofs.Common.{◌≡◌, List, map, false, true, sym, ap, ◌∙◌, Option, None, [], string_bytes, rules, option_map}
use Rattle.std.specs.List.{list_any}
use Rattle.clap.proofs.WalkLemmas.{list_any-map}
use Rattle.clap.specs.Simple.{App, is_simple, matches_of}
use Rattle.clap.specs.Faults.{fault_of, is_simple_and_free}
use Rattle.clap.specs.Words.{app_of, found_of, rows_of}
use Rattle.pd_words.specs.Grammar.{Asked, Text, words_of}
use Rattle.pd_words.specs.Shown.{asked, is_stray, pdplay}
use Rattle.pd_words.proofs.CommandLemmas.{asks-exactly}
use Rattle.pd_words.proofs.FormLemmas.{stray_refused}
use Rattle.pd_words.proofs.ReadLemmas.{answer-err, answer-ok, some_fault}
use Rattle.pd_words.proofs.reading.read_words.Goals as goal

pub returns-then-has_stray : goal.returns-then-has_stray
returns-then-has_stray c =
    let value : option_map asked None ≡ words_of (map (λ w. string_bytes w) c.args.words.now) =
    sym (stray_refused (map (λ w. string_bytes w) c.args.words.now)
    (sym (list_any-map is_stray (λ w. string_bytes w) c.args.words.now) ∙ sym c.has_stray.ensures ∙ c.if-has_stray.true)) in
    record {
      asked = asks-exactly (map (λ w. string_bytes w) c.args.words.now) None value;
      value = value;
    }

pub returns-in-Ok : goal.returns-in-Ok
returns-in-Ok c =
    let app : app_of c.in_ok-command.field-0 ≡ pdplay = search rules in
    let clean : list_any is_stray (map (λ w. string_bytes w) c.args.words.now) ≡ false =
    sym (list_any-map is_stray (λ w. string_bytes w) c.args.words.now) ∙ sym c.has_stray.ensures ∙ c.if-has_stray.false in
    let none : fault_of (app_of c.in_ok-command.field-0) (map (λ w. string_bytes w) c.args.words.now) ≡ [] =
    c.in-Ok.ensures.kinds (ap is_simple_and_free app) in
    let rows : rows_of (found_of c.in-Ok.matches) ≡ matches_of (app_of c.in_ok-command.field-0) (map (λ w. string_bytes w) c.args.words.now) =
    (c.in-Ok.ensures.matches (ap is_simple app)).0 in
    let value : option_map asked c.ask.result ≡ words_of (map (λ w. string_bytes w) c.args.words.now) =
    c.ask.ensures ∙ answer-ok (map (λ w. string_bytes w) c.args.words.now) (found_of c.in-Ok.matches) clean
    (ap (λ (a : App). fault_of a (map (λ w. string_bytes w) c.args.words.now)) (sym app) ∙ none)
    (rows ∙ ap (λ (a : App). matches_of a (map (λ w. string_bytes w) c.args.words.now)) app) in
    record {
      asked = asks-exactly (map (λ w. string_bytes w) c.args.words.now) c.ask.result value;
      value = value;
    }

pub returns : goal.returns
returns c =
    let app : app_of c.in_ok-command.field-0 ≡ pdplay = search rules in
    let clean : list_any is_stray (map (λ w. string_bytes w) c.args.words.now) ≡ false =
    sym (list_any-map is_stray (λ w. string_bytes w) c.args.words.now) ∙ sym c.has_stray.ensures ∙ c.if-has_stray.false in
    let value : option_map asked None ≡ words_of (map (λ w. string_bytes w) c.args.words.now) =
    sym (answer-err (map (λ w. string_bytes w) c.args.words.now) clean
    (λ none. some_fault c.in-Err.error (fault_of (app_of c.in_ok-command.field-0) (map (λ w. string_bytes w) c.args.words.now))
    (c.in-Err.ensures.kinds (ap is_simple_and_free app))
    (λ e. c.in_default.not-OutOfMemory (c.kind.ensures ∙ e))
    (ap (λ (a : App). fault_of a (map (λ w. string_bytes w) c.args.words.now)) app ∙ none))) in
    record {
      asked = asks-exactly (map (λ w. string_bytes w) c.args.words.now) None value;
      value = value;
    }

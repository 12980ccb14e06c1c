use Rattle.std.proofs.Common.{[], ◌∷◌, codes, refl, arith}
use Rattle.serve_engine.proofs.ExampleLemmas.{own_abc, one_alone, three_alone, empty_group, other_number, other_count, other_digits, written_mark, eight_of_abc, not_of_abc, other_first}
use Rattle.serve_engine.proofs.laws.mark_examples.Goals as goal

pub returns-clause-nothing : goal.returns-clause-nothing
returns-clause-nothing c = one_alone [] [] refl

pub returns-clause-text_alone : goal.returns-clause-text_alone
returns-clause-text_alone c = one_alone (codes "{}") (codes "{}") refl

pub returns-clause-two_words : goal.returns-clause-two_words
returns-clause-two_words c = three_alone (codes "payroll 0123456789abcdef {}") (codes "payroll") (codes "0123456789abcdef") (codes "{}") refl

pub returns-clause-no_last_blank : goal.returns-clause-no_last_blank
returns-clause-no_last_blank c = three_alone (codes "payroll 0123456789abcdef ba7816bf") (codes "payroll") (codes "0123456789abcdef") (codes "ba7816bf") refl

pub returns-clause-no_group : goal.returns-clause-no_group
returns-clause-no_group c = empty_group (codes " 0123456789abcdef ba7816bf abc") (codes "0123456789abcdef") (codes "ba7816bf") (codes "abc" ∷ []) refl

pub returns-clause-fifteen_digits : goal.returns-clause-fifteen_digits
returns-clause-fifteen_digits c =
    other_number (codes "payroll 0123456789abcde ba7816bf abc") (codes "payroll") (codes "0123456789abcde") (codes "ba7816bf") (codes "abc" ∷ []) refl (λ same. absurd (omega (arith, same)))

pub returns-clause-nine_digits : goal.returns-clause-nine_digits
returns-clause-nine_digits c =
    other_count (codes "payroll 0123456789abcdef ba7816bf8 abc") (codes "payroll") (codes "0123456789abcdef") (codes "ba7816bf8") (codes "abc" ∷ []) refl (λ same. absurd (omega (arith, same)))

pub returns-clause-capital : goal.returns-clause-capital
returns-clause-capital c =
    other_digits (codes "payroll 0123456789abcdeF ba7816bf abc") (codes "payroll") (codes "0123456789abcdeF") (codes "ba7816bf") (codes "abc" ∷ []) refl refl

pub returns-clause-other_group : goal.returns-clause-other_group
returns-clause-other_group c = (
  record { group = codes "stock"; records = codes "0123456789abcdef"; checksum = codes "ba7816bf" },
  codes "abc",
  record { has_mark = written_mark (codes "stock") (codes "0123456789abcdef") (codes "ba7816bf") (omega arith) refl refl refl refl refl; is_its = refl },
  other_first 115 112 (codes "tock") (codes "ayroll") (λ same. absurd (omega (arith, same))),
)

pub returns-clause-other_records : goal.returns-clause-other_records
returns-clause-other_records c = (
  record { group = codes "payroll"; records = codes "fedcba9876543210"; checksum = codes "ba7816bf" },
  codes "abc",
  record { has_mark = written_mark (codes "payroll") (codes "fedcba9876543210") (codes "ba7816bf") (omega arith) refl refl refl refl refl; is_its = refl },
  refl,
  other_first 102 48 (codes "edcba9876543210") (codes "123456789abcdef") (λ same. absurd (omega (arith, same))),
)

pub returns-clause-damaged : goal.returns-clause-damaged
returns-clause-damaged c = (
  record { group = codes "payroll"; records = codes "0123456789abcdef"; checksum = codes "ba7816be" },
  codes "abc",
  record { has_mark = written_mark (codes "payroll") (codes "0123456789abcdef") (codes "ba7816be") (omega arith) refl refl refl refl refl; is_its = refl },
  refl,
  refl,
  not_of_abc,
)

pub returns-clause-own : goal.returns-clause-own
returns-clause-own c = own_abc

pub returns-clause-digest : goal.returns-clause-digest
returns-clause-digest c = eight_of_abc

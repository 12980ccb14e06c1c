-- Both tables of the world in which a writer was helped to all seats, computed part by part.
use Rattle.std.proofs.Common.{◌≡◌, ℕ, ◌+◌, ◌<◌, List, [], ◌∷◌, ◌++◌, refl, ap, ◌∙◌, arith}
use Rattle.std.specs.Prelude.{codes, decimal}
use Rattle.std.proofs.lemmas.Fmt.{decimal_digit}
use Rattle.session_list.specs.declared.session.Phase.TheVariants.{Writer}
use Rattle.session_list.specs.declared.session.Session.{Session}
use Rattle.admission_model.specs.Account.{sessions_of}
use Rattle.multi_site_world.specs.World.{account_at}
use Rattle.multi_site_world.specs.Instances.{writer_there}
use Rattle.audit_report.specs.Lines.{left_in, right_in, line_end, seat_line, session_lines}
use Rattle.audit_report.specs.Tables.{counts_in, seat_row, seat_header, seat_table, session_header, session_table}

-- a line of the seat table of record `a`, by the texts of its numbers
abbrev line_by : List ℕ → List ℕ → List ℕ → List ℕ → List ℕ
line_by i rights inside unfinished =
    (left_in 16 (97 ∷ []) ++ right_in 5 i) ++ (right_in 8 rights ++ (right_in 8 inside ++ (right_in 12 unfinished ++ line_end)))

-- of numbers of one digit
line_digits : (i rights inside unfinished : ℕ) → i < 10 → rights < 10 → inside < 10 → unfinished < 10 → seat_line (97 ∷ []) i (record { rights = rights; inside = inside; unfinished = unfinished }) ≡ line_by ((48 + i) ∷ []) ((48 + rights) ∷ []) ((48 + inside) ∷ []) ((48 + unfinished) ∷ [])
line_digits i rights inside unfinished hi hr hn hu =
    ap (λ (t : List ℕ). line_by t (decimal rights) (decimal inside) (decimal unfinished)) (decimal_digit i hi)
    ∙ (ap (λ (t : List ℕ). line_by ((48 + i) ∷ []) t (decimal inside) (decimal unfinished)) (decimal_digit rights hr)
    ∙ (ap (λ (t : List ℕ). line_by ((48 + i) ∷ []) ((48 + rights) ∷ []) t (decimal unfinished)) (decimal_digit inside hn)
    ∙ ap (line_by ((48 + i) ∷ []) ((48 + rights) ∷ []) ((48 + inside) ∷ [])) (decimal_digit unfinished hu)))

-- the seat table of one record at three sites, by its lines
abbrev seats_by : List ℕ → List ℕ → List ℕ → List ℕ
seats_by a b c = seat_header ++ ([] ++ ((([] ++ a) ++ b) ++ c))

-- a line of the world, by what its site counts
row_by : (i rights inside unfinished : ℕ) → counts_in (account_at writer_there i) 0 ≡ record { rights = rights; inside = inside; unfinished = unfinished } → i < 10 → rights < 10 → inside < 10 → unfinished < 10 → seat_row writer_there 0 i ≡ line_by ((48 + i) ∷ []) ((48 + rights) ∷ []) ((48 + inside) ∷ []) ((48 + unfinished) ∷ [])
row_by i rights inside unfinished counts hi hr hn hu = ap (seat_line (97 ∷ []) i) counts ∙ line_digits i rights inside unfinished hi hr hn hu

row_0 : seat_row writer_there 0 0 ≡ line_by (48 ∷ []) (48 ∷ []) (48 ∷ []) (48 ∷ [])
row_0 = row_by 0 0 0 0 refl (omega arith) (omega arith) (omega arith) (omega arith)

row_1 : seat_row writer_there 0 1 ≡ line_by (49 ∷ []) (48 ∷ []) (51 ∷ []) (49 ∷ [])
row_1 = row_by 1 0 3 1 refl (omega arith) (omega arith) (omega arith) (omega arith)

row_2 : seat_row writer_there 0 2 ≡ line_by (50 ∷ []) (48 ∷ []) (48 ∷ []) (48 ∷ [])
row_2 = row_by 2 0 0 0 refl (omega arith) (omega arith) (omega arith) (omega arith)

pub seats_shown : seat_table writer_there
    ≡ codes "record           site  rights  inside  unfinished\n"
    ++ (codes "a                   0       0       0           0\n"
    ++ (codes "a                   1       0       3           1\n"
    ++ codes "a                   2       0       0           0\n"))
seats_shown =
    ap (λ (a : List ℕ). seats_by a (seat_row writer_there 0 1) (seat_row writer_there 0 2)) row_0
    ∙ (ap (λ (b : List ℕ). seats_by (line_by (48 ∷ []) (48 ∷ []) (48 ∷ []) (48 ∷ [])) b (seat_row writer_there 0 2)) row_1
    ∙ ap (seats_by (line_by (48 ∷ []) (48 ∷ []) (48 ∷ []) (48 ∷ [])) (line_by (49 ∷ []) (48 ∷ []) (51 ∷ []) (49 ∷ []))) row_2)

-- the session table of record `a` at three sites, by the sites' sessions
abbrev sessions_by : List Session → List Session → List Session → List ℕ
sessions_by a b c =
    session_header ++ ([] ++ ((([] ++ session_lines (97 ∷ []) 0 0 a) ++ session_lines (97 ∷ []) 1 0 b) ++ session_lines (97 ∷ []) 2 0 c))

abbrev the_writer : Session
the_writer = record { r = 0; h = 5; phase = Writer }

-- the line of the writer, by the texts of its numbers
abbrev writer_by : List ℕ → List ℕ → List ℕ
writer_by i h = (left_in 16 (97 ∷ []) ++ right_in 5 i) ++ (right_in 15 h ++ (codes "  " ++ (codes "writer" ++ line_end)))

pub sessions_shown : session_table writer_there ≡ codes "record           site         holder  phase\na                   1              5  writer\n"
sessions_shown =
    ap (λ (a : List Session). sessions_by a (sessions_of (account_at writer_there 1)) (sessions_of (account_at writer_there 2))) none_0
    ∙ (ap (λ (b : List Session). sessions_by [] b (sessions_of (account_at writer_there 2))) one_1
    ∙ (ap (sessions_by [] (the_writer ∷ [])) none_2
    ∙ (ap (λ (t : List ℕ). session_header ++ ((writer_by t (decimal 5) ++ []) ++ [])) (decimal_digit 1 (omega arith))
    ∙ ap (λ (t : List ℕ). session_header ++ ((writer_by (49 ∷ []) t ++ []) ++ [])) (decimal_digit 5 (omega arith)))))
  where
    none_0 : sessions_of (account_at writer_there 0) ≡ []
    none_0 = refl

    one_1 : sessions_of (account_at writer_there 1) ≡ the_writer ∷ []
    one_1 = refl

    none_2 : sessions_of (account_at writer_there 2) ≡ []
    none_2 = refl

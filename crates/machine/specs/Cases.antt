-- Pages that are proved to run as 01 and the rulings say, as one table: the preamble's and the page's bytes, the allowance, the row and the
-- stack. The first four are the P cases of 01. Above each stands the page in the notation of the rulings (a body operator before its body).
-- proofs/AllCases.antt proves each. Assumes nothing.
use Rattle.std.specs.Prelude.{ℕ, ◌≡◌, List, [], ◌∷◌, ◌++◌, reverse, ℤ, pos}
use Rattle.machine.specs.declared.Value.TheVariants.{Number, Identifier, Vector, Operator}
use Rattle.machine.specs.State.{Entry, val, mark}
use Rattle.machine.specs.Page.{Row, page_result, row_words, all_words}

pub record Case : Type 0 where
  pub preamble : List ℕ
  pub page : List ℕ
  pub allowance : ℕ
  pub row : Row
  pub stack : List Entry

-- the row, and the stack as a section lists it
abbrev pub Holds : Case → Type 0
Holds c =
    let r = page_result c.allowance c.preamble c.page in
    row_words r.row ++ all_words (reverse r.stack) ≡ row_words c.row ++ all_words c.stack

case : List ℕ → List ℕ → ℕ → ℕ → ℕ → ℕ → ℕ → List Entry → Case
case pre page allowance outcome errors steps cells stack = record {
  preamble = pre;
  page = page;
  allowance = allowance;
  row = record { outcome = outcome; errors = errors; steps = steps; cells = cells };
  stack = stack;
}

figure : ℤ → ℕ → Entry
figure n d = val (Number (record { num = n; den = d }))

-- whose it is, is not listed
a_mark : Entry
a_mark = mark 0

unfoldable pub cases : List Case
unfolding case figure a_mark
cases =
    -- 0. 9 0 MARK 1 0 DIV 5 UNMARK0 6: F (01)
    case [] (15 ∷ 169 ∷ 15 ∷ 160 ∷ 160 ∷ 186 ∷ 15 ∷ 161 ∷ 15 ∷ 160 ∷ 160 ∷ 204 ∷ 15 ∷ 165 ∷ 160 ∷ 192 ∷ 15 ∷ 166 ∷ []) 100000 1 1 9 0 (figure (pos 9) 1 ∷ figure (pos 6) 1 ∷ [])
    -- 1. 1 0 DIV 5: R (01)
    ∷ case [] (15 ∷ 161 ∷ 15 ∷ 160 ∷ 160 ∷ 204 ∷ 15 ∷ 165 ∷ []) 100000 2 1 3 0 []
    -- 2. 9 1 IF { 0 MARK 4 } POP POP 3: R (01: the mark is dead)
    ∷ case [] (15 ∷ 169 ∷ 15 ∷ 161 ∷ 160 ∷ 239 ∷ 160 ∷ 106 ∷ 15 ∷ 160 ∷ 160 ∷ 186 ∷ 15 ∷ 164 ∷ 160 ∷ 107 ∷ 160 ∷ 180 ∷ 160 ∷ 180 ∷ 15 ∷ 163 ∷ []) 100000 2 1 8 0 []
    -- 3. 1 IF { 5 0 FSET } 0 FGET: F (01)
    ∷ case [] (15 ∷ 161 ∷ 160 ∷ 239 ∷ 160 ∷ 106 ∷ 15 ∷ 165 ∷ 15 ∷ 160 ∷ 149 ∷ 160 ∷ 107 ∷ 15 ∷ 160 ∷ 148 ∷ []) 100000 1 0 7 0 (figure (pos 0) 1 ∷ [])
    -- 4. 2147483647 1 ADD: R (01)
    ∷ case [] (194 ∷ 4 ∷ 127 ∷ 255 ∷ 255 ∷ 255 ∷ 15 ∷ 161 ∷ 160 ∷ 201 ∷ []) 100000 2 1 3 0 []
    -- 5. 1 IF { 0 MARK 4 }: F (R30: a dead mark stays an entry)
    ∷ case [] (15 ∷ 161 ∷ 160 ∷ 239 ∷ 160 ∷ 106 ∷ 15 ∷ 160 ∷ 160 ∷ 186 ∷ 15 ∷ 164 ∷ 160 ∷ 107 ∷ []) 100000 1 0 5 0 (a_mark ∷ figure (pos 4) 1 ∷ [])
    -- 6. 5 1 IF { 0 MARK } 1 IF { UNMARK0 } 5: R (a dead mark is nobody's)
    ∷ case [] (15 ∷ 165 ∷ 15 ∷ 161 ∷ 160 ∷ 239 ∷ 160 ∷ 106 ∷ 15 ∷ 160 ∷ 160 ∷ 186 ∷ 160 ∷ 107 ∷ 15 ∷ 161 ∷ 160 ∷ 239 ∷ 160 ∷ 106 ∷ 160 ∷ 192 ∷ 160 ∷ 107 ∷ 15 ∷ 165 ∷ []) 100000 2 1 8 0 []
    -- 7. 9 1 IF { 0 MARK } 1 IF { UNMARK0 4 } 5: R (contexts of equal depth)
    ∷ case [] (15 ∷ 169 ∷ 15 ∷ 161 ∷ 160 ∷ 239 ∷ 160 ∷ 106 ∷ 15 ∷ 160 ∷ 160 ∷ 186 ∷ 160 ∷ 107 ∷ 15 ∷ 161 ∷ 160 ∷ 239 ∷ 160 ∷ 106 ∷ 160 ∷ 192 ∷ 15 ∷ 164 ∷ 160 ∷ 107 ∷ 15 ∷ 165 ∷ []) 100000 2 1 8 0 []
    -- 8. MAKESIMPLECO { 0 MARK } DO MAKESIMPLECO { UNMARK0 } DO 5: R (the same, by two calls)
    ∷ case [] (160 ∷ 114 ∷ 160 ∷ 106 ∷ 15 ∷ 160 ∷ 160 ∷ 186 ∷ 160 ∷ 107 ∷ 160 ∷ 231 ∷ 160 ∷ 114 ∷ 160 ∷ 106 ∷ 160 ∷ 192 ∷ 160 ∷ 107 ∷ 160 ∷ 231 ∷ 15 ∷ 165 ∷ []) 100000 2 1 7 100 []
    -- 9. MAKESIMPLECO { COUNT } 0 FSET 1 IF { 0 MARK } 0 FGET DO: R (COUNT over a dead mark)
    ∷ case [] (160 ∷ 114 ∷ 160 ∷ 106 ∷ 160 ∷ 188 ∷ 160 ∷ 107 ∷ 15 ∷ 160 ∷ 149 ∷ 15 ∷ 161 ∷ 160 ∷ 239 ∷ 160 ∷ 106 ∷ 15 ∷ 160 ∷ 160 ∷ 186 ∷ 160 ∷ 107 ∷ 15 ∷ 160 ∷ 148 ∷ 160 ∷ 231 ∷ []) 100000 2 1 11 50 []
    -- 10. 0 MARK 1 IF { COUNT 5 } 6 UNMARK0 7: F (R18: a caller's mark)
    ∷ case [] (15 ∷ 160 ∷ 160 ∷ 186 ∷ 15 ∷ 161 ∷ 160 ∷ 239 ∷ 160 ∷ 106 ∷ 160 ∷ 188 ∷ 15 ∷ 165 ∷ 160 ∷ 107 ∷ 15 ∷ 166 ∷ 160 ∷ 192 ∷ 15 ∷ 167 ∷ []) 100000 1 1 8 0 (figure (pos 7) 1 ∷ [])
    -- 11. 0 MARK 1 IF { 0 UNMARK 5 } 6 UNMARK0 7: F (UNMARK over a caller's mark fails)
    ∷ case [] (15 ∷ 160 ∷ 160 ∷ 186 ∷ 15 ∷ 161 ∷ 160 ∷ 239 ∷ 160 ∷ 106 ∷ 15 ∷ 160 ∷ 160 ∷ 187 ∷ 15 ∷ 165 ∷ 160 ∷ 107 ∷ 15 ∷ 166 ∷ 160 ∷ 192 ∷ 15 ∷ 167 ∷ []) 100000 1 1 9 0 (figure (pos 7) 1 ∷ [])
    -- 12. 0 MARK 1 0 DIV 1 IF { UNMARK0 } 7 UNMARK0 8: F (R21)
    ∷ case [] (15 ∷ 160 ∷ 160 ∷ 186 ∷ 15 ∷ 161 ∷ 15 ∷ 160 ∷ 160 ∷ 204 ∷ 15 ∷ 161 ∷ 160 ∷ 239 ∷ 160 ∷ 106 ∷ 160 ∷ 192 ∷ 160 ∷ 107 ∷ 15 ∷ 167 ∷ 160 ∷ 192 ∷ 15 ∷ 168 ∷ []) 100000 1 1 10 0 (figure (pos 8) 1 ∷ [])
    -- 13. 0 MARK 1 0 DIV 0 UNMARK 8191 1 IF { UNMARK0 } UNMARK0 5: F (R21: `0 UNMARK` stops nothing, unknown operators are no errors)
    ∷ case [] (15 ∷ 160 ∷ 160 ∷ 186 ∷ 15 ∷ 161 ∷ 15 ∷ 160 ∷ 160 ∷ 204 ∷ 15 ∷ 160 ∷ 160 ∷ 187 ∷ 191 ∷ 255 ∷ 15 ∷ 161 ∷ 160 ∷ 239 ∷ 160 ∷ 106 ∷ 160 ∷ 192 ∷ 160 ∷ 107 ∷ 160 ∷ 192 ∷ 15 ∷ 165 ∷ []) 100000 1 1 12 0 (figure (pos 5) 1 ∷ [])
    -- 14. 4 0 MARK 1 IF { 1 IF { 1 0 DIV 5 } 6 } 7 UNMARK0 8: F (recovery through several bodies)
    ∷ case [] (15 ∷ 164 ∷ 15 ∷ 160 ∷ 160 ∷ 186 ∷ 15 ∷ 161 ∷ 160 ∷ 239 ∷ 160 ∷ 106 ∷ 15 ∷ 161 ∷ 160 ∷ 239 ∷ 160 ∷ 106 ∷ 15 ∷ 161 ∷ 15 ∷ 160 ∷ 160 ∷ 204 ∷ 15 ∷ 165 ∷ 160 ∷ 107 ∷ 15 ∷ 166 ∷ 160 ∷ 107 ∷ 15 ∷ 167 ∷ 160 ∷ 192 ∷ 15 ∷ 168 ∷ []) 100000 1 1 13 0 (figure (pos 4) 1 ∷ figure (pos 8) 1 ∷ [])
    -- 15. 3 0 MARK 1 IF { 0 MARK POP 8 } 9 UNMARK0 5: F (a body that ends while skipping)
    ∷ case [] (15 ∷ 163 ∷ 15 ∷ 160 ∷ 160 ∷ 186 ∷ 15 ∷ 161 ∷ 160 ∷ 239 ∷ 160 ∷ 106 ∷ 15 ∷ 160 ∷ 160 ∷ 186 ∷ 160 ∷ 180 ∷ 15 ∷ 168 ∷ 160 ∷ 107 ∷ 15 ∷ 169 ∷ 160 ∷ 192 ∷ 15 ∷ 165 ∷ []) 100000 1 1 12 0 (figure (pos 3) 1 ∷ figure (pos 5) 1 ∷ [])
    -- 16. 0 MARK 5 1 IF { 0 MARK 0 MARK 1 0 DIV 3 } 4 UNMARK0 6: F (several contexts left)
    ∷ case [] (15 ∷ 160 ∷ 160 ∷ 186 ∷ 15 ∷ 165 ∷ 15 ∷ 161 ∷ 160 ∷ 239 ∷ 160 ∷ 106 ∷ 15 ∷ 160 ∷ 160 ∷ 186 ∷ 15 ∷ 160 ∷ 160 ∷ 186 ∷ 15 ∷ 161 ∷ 15 ∷ 160 ∷ 160 ∷ 204 ∷ 15 ∷ 163 ∷ 160 ∷ 107 ∷ 15 ∷ 164 ∷ 160 ∷ 192 ∷ 15 ∷ 166 ∷ []) 100000 1 1 16 0 (figure (pos 6) 1 ∷ [])
    -- 17. 0 MARK 1 IF { 1 IF { 1 0 DIV } } UNMARK0: F (R20)
    ∷ case [] (15 ∷ 160 ∷ 160 ∷ 186 ∷ 15 ∷ 161 ∷ 160 ∷ 239 ∷ 160 ∷ 106 ∷ 15 ∷ 161 ∷ 160 ∷ 239 ∷ 160 ∷ 106 ∷ 15 ∷ 161 ∷ 15 ∷ 160 ∷ 160 ∷ 204 ∷ 160 ∷ 107 ∷ 160 ∷ 107 ∷ 160 ∷ 192 ∷ []) 100000 1 1 10 0 []
    -- 18. 0 MARK 1 IF { 1 0 DIV UNMARK0 5 } 6 UNMARK0 7: F (skipping starts after the literal in progress)
    ∷ case [] (15 ∷ 160 ∷ 160 ∷ 186 ∷ 15 ∷ 161 ∷ 160 ∷ 239 ∷ 160 ∷ 106 ∷ 15 ∷ 161 ∷ 15 ∷ 160 ∷ 160 ∷ 204 ∷ 160 ∷ 192 ∷ 15 ∷ 165 ∷ 160 ∷ 107 ∷ 15 ∷ 166 ∷ 160 ∷ 192 ∷ 15 ∷ 167 ∷ []) 100000 1 1 10 0 (figure (pos 7) 1 ∷ [])
    -- 19. 0 MARK -1 IF { UNMARK0 5 } 6 UNMARK0 7: F (-1 is no Cardinal)
    ∷ case [] (15 ∷ 160 ∷ 160 ∷ 186 ∷ 15 ∷ 159 ∷ 160 ∷ 239 ∷ 160 ∷ 106 ∷ 160 ∷ 192 ∷ 15 ∷ 165 ∷ 160 ∷ 107 ∷ 15 ∷ 166 ∷ 160 ∷ 192 ∷ 15 ∷ 167 ∷ []) 100000 1 1 7 0 (figure (pos 7) 1 ∷ [])
    -- 20. 0 MARK 1 IFELSE { 1 0 DIV } 4 UNMARK0 5: F (R19: a recovery leaves the body, nothing is pushed)
    ∷ case [] (15 ∷ 160 ∷ 160 ∷ 186 ∷ 15 ∷ 161 ∷ 160 ∷ 241 ∷ 160 ∷ 106 ∷ 15 ∷ 161 ∷ 15 ∷ 160 ∷ 160 ∷ 204 ∷ 160 ∷ 107 ∷ 15 ∷ 164 ∷ 160 ∷ 192 ∷ 15 ∷ 165 ∷ []) 100000 1 1 10 0 (figure (pos 5) 1 ∷ [])
    -- 21. 1 IFELSE { 7 }: F (R19: the late 0 is no step)
    ∷ case [] (15 ∷ 161 ∷ 160 ∷ 241 ∷ 160 ∷ 106 ∷ 15 ∷ 167 ∷ 160 ∷ 107 ∷ []) 3 1 0 3 0 (figure (pos 7) 1 ∷ figure (pos 0) 1 ∷ [])
    -- 22. 1 IFELSE { 0 MARK 1 0 DIV UNMARK0 5 }: F (R19)
    ∷ case [] (15 ∷ 161 ∷ 160 ∷ 241 ∷ 160 ∷ 106 ∷ 15 ∷ 160 ∷ 160 ∷ 186 ∷ 15 ∷ 161 ∷ 15 ∷ 160 ∷ 160 ∷ 204 ∷ 160 ∷ 192 ∷ 15 ∷ 165 ∷ 160 ∷ 107 ∷ []) 100000 1 1 9 0 (figure (pos 5) 1 ∷ figure (pos 0) 1 ∷ [])
    -- 23. MAKESIMPLECO { DUP DO } DUP DO: R (R24: the thirteenth context)
    ∷ case [] (160 ∷ 114 ∷ 160 ∷ 106 ∷ 160 ∷ 181 ∷ 160 ∷ 231 ∷ 160 ∷ 107 ∷ 160 ∷ 181 ∷ 160 ∷ 231 ∷ []) 100000 2 1 25 50 []
    -- 24. 4 0 MARK 3 1 0 DIV 5 UNMARK0: B (R22: B while skipping)
    ∷ case [] (15 ∷ 164 ∷ 15 ∷ 160 ∷ 160 ∷ 186 ∷ 15 ∷ 163 ∷ 15 ∷ 161 ∷ 15 ∷ 160 ∷ 160 ∷ 204 ∷ 15 ∷ 165 ∷ 160 ∷ 192 ∷ []) 7 3 1 7 0 (figure (pos 4) 1 ∷ a_mark ∷ [])
    -- 25. 0 MARK 1 0 DIV --: R (R22: only a comment follows)
    ∷ case [] (15 ∷ 160 ∷ 160 ∷ 186 ∷ 15 ∷ 161 ∷ 15 ∷ 160 ∷ 160 ∷ 204 ∷ 198 ∷ 1 ∷ 99 ∷ []) 5 2 1 5 0 []
    -- 26. 1 IF { 0 MARK 1 0 DIV }: R (R22: only ends of bodies follow)
    ∷ case [] (15 ∷ 161 ∷ 160 ∷ 239 ∷ 160 ∷ 106 ∷ 15 ∷ 160 ∷ 160 ∷ 186 ∷ 15 ∷ 161 ∷ 15 ∷ 160 ∷ 160 ∷ 204 ∷ 160 ∷ 107 ∷ []) 7 2 1 7 0 []
    -- 27. 7 0 FSET 5 1 IF { 8 0 FSET 0 MARK 6 6 }: B (R23)
    ∷ case [] (15 ∷ 167 ∷ 15 ∷ 160 ∷ 149 ∷ 15 ∷ 165 ∷ 15 ∷ 161 ∷ 160 ∷ 239 ∷ 160 ∷ 106 ∷ 15 ∷ 168 ∷ 15 ∷ 160 ∷ 149 ∷ 15 ∷ 160 ∷ 160 ∷ 186 ∷ 15 ∷ 166 ∷ 15 ∷ 166 ∷ 160 ∷ 107 ∷ []) 12 3 0 12 0 (figure (pos 5) 1 ∷ a_mark ∷ figure (pos 6) 1 ∷ [])
    -- 28. (5 0 FSET "ab" 1 0 DIV) 0 FGET 0 MAKEVEC: F (R26: a preamble that ended in R)
    ∷ case (15 ∷ 165 ∷ 15 ∷ 160 ∷ 149 ∷ 193 ∷ 2 ∷ 97 ∷ 98 ∷ 15 ∷ 161 ∷ 15 ∷ 160 ∷ 160 ∷ 204 ∷ []) (15 ∷ 160 ∷ 148 ∷ 15 ∷ 160 ∷ 161 ∷ 27 ∷ []) 100000 1 0 4 0 (figure (pos 5) 1 ∷ val (Vector 2 0 0) ∷ [])
    -- 29. ("ab") 0 MAKEVEC: F (R31)
    ∷ case (193 ∷ 2 ∷ 97 ∷ 98 ∷ []) (15 ∷ 160 ∷ 161 ∷ 27 ∷ []) 100000 1 0 2 0 (val (Vector 2 0 0) ∷ [])
    -- 30. 1 0 FSET MAKESIMPLECO { 0 FGET 2 0 FSET 0 FGET } DUP DO 0 FGET: F (a call's own frame)
    ∷ case [] (15 ∷ 161 ∷ 15 ∷ 160 ∷ 149 ∷ 160 ∷ 114 ∷ 160 ∷ 106 ∷ 15 ∷ 160 ∷ 148 ∷ 15 ∷ 162 ∷ 15 ∷ 160 ∷ 149 ∷ 15 ∷ 160 ∷ 148 ∷ 160 ∷ 107 ∷ 160 ∷ 181 ∷ 160 ∷ 231 ∷ 15 ∷ 160 ∷ 148 ∷ []) 100000 1 0 15 50 (val (Operator 1 9 11 0) ∷ figure (pos 1) 1 ∷ figure (pos 2) 1 ∷ figure (pos 1) 1 ∷ [])
    -- 31. 5 CORRECT { 1 } IFCOPY { 2 } 6: F (R15)
    ∷ case [] (15 ∷ 165 ∷ 160 ∷ 110 ∷ 160 ∷ 106 ∷ 15 ∷ 161 ∷ 160 ∷ 107 ∷ 160 ∷ 240 ∷ 160 ∷ 106 ∷ 15 ∷ 162 ∷ 160 ∷ 107 ∷ 15 ∷ 166 ∷ []) 100000 1 0 4 0 (figure (pos 5) 1 ∷ figure (pos 6) 1 ∷ [])
    -- 32. (MAKESIMPLECO { x MAKESIMPLECO { } } 0 FSET) 0 FGET DO: F (R27)
    ∷ case (160 ∷ 114 ∷ 160 ∷ 106 ∷ 197 ∷ 1 ∷ 120 ∷ 160 ∷ 114 ∷ 160 ∷ 106 ∷ 160 ∷ 107 ∷ 160 ∷ 107 ∷ 15 ∷ 160 ∷ 149 ∷ []) (15 ∷ 160 ∷ 148 ∷ 160 ∷ 231 ∷ []) 100000 1 0 5 50 (val (Identifier 0 4 1) ∷ val (Operator 0 11 0 50) ∷ [])
    ∷ []

-- "One whole output, for setup with flags 1, `220 hi`, `EPSV`, `227 x (192,0,2,31,237,19)`, each with CR LF".
use Rattle.std.specs.Prelude.{List, ◌∷◌, ◌++◌, ℕ}
use Rattle.rules.specs.Octets.{oct}
use Rattle.rules.specs.Exchanges.{all_on}

-- the session file of "setup with flags 1, `220 hi`, `EPSV`, `227 x (192,0,2,31,237,19)`, each with CR LF"
unfoldable pub printed_file : List ℕ
printed_file =
    0 ∷ 4 ∷ 4 ∷ 0 ∷ 0 ∷ 25 ∷ 1 ∷ 0 ∷ 0 ∷ 8 ∷ 0 ∷ 0 ∷ 0 ∷ 6 ∷ 1 ∷ 0 ∷ 0 ∷ 27
    ∷ (all_on.client ++ (all_on.mapped ++ (1 ∷ (all_on.server ++ oct "220 hi\r\nEPSV\r\n227 x (192,0,2,31,237,19)\r\n"))))

-- "One whole output": the report of that file, as document 01 prints it
unfoldable pub printed_report : List ℕ
printed_report =
    oct "FTP64 REPORT 4\n0 0 0 - -\n1 8 0 - 220\\20hi\\0d\\0a\n2 6 0 PASV\\0d\\0a -\n"
    ++ oct "3 27 0 - 229\\20Entering\\20Extended\\20Passive\\20Mode\\20(|||60691|)\\0d\\0a\n"

-- this page's definitions, for a proof that computes with them
unfoldable pub printed-opened : Unit {0}
unfolding printed_file printed_report
printed-opened = tt

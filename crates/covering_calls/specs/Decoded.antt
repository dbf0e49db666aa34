-- A region file that was decoded, as the calls that cover a file know it. Document 01, 'Regions'.
--   Decoded f h rs   the file f is accepted, its header is h, and the array rs begins with its rows
use Rattle.std.specs.Prelude.{◌≡◌, List, ℕ, ℤ}
use Rattle.region.specs.declared.Header.{Header}
use Rattle.region.specs.Reader.{File, Accepted}
use Rattle.region.specs.Answers.{header_of}
use Rattle.covering_walk.specs.Walk.{RowsOf}

pub record Decoded (f : List ℕ) (h : Header) (rs : List ℤ) : Type 0 where
  pub file : File
  pub accepted : Accepted f file
  pub header : header_of file ≡ h
  pub rows : RowsOf file.region h.count rs

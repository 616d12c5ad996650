-- What each call may answer and leave is what its definition says, and there is such an outcome: so a contract that the code
-- carries can't be taken away or weakened.
use Prim.Native.Nat.{ℕ}
use mathlib.Core.Path.{◌≡◌, refl, sym}
use mathlib.Core.List.{List, []}
use contract.Lifetimes.{Lfts}
use Rattle.meaning.specs.declared.Answer.{Answer}
use Rattle.writing.specs.Lent.{Lent, Leaves}
use Rattle.convert.specs.Convert.{shredded, rebuilt}
use Rattle.announce.specs.Check.{check_of}
use Rattle.rooms.specs.Run.{Ran, Gives}
use Rattle.runner.specs.Run.{run_of}
use Rattle.translator.specs.Translate.{translation}
use Rattle.trammelbud.specs.Calls.{read_graph, read_document, read_tables, read_query, read_program, select_of, list_of}
use Rattle.trammelbud.proofs.tb_read_graph.Reads as ReadGraphCall
use Rattle.trammelbud.proofs.tb_read_document.Reads as ReadDocumentCall
use Rattle.trammelbud.proofs.tb_read_tables.Reads as ReadTablesCall
use Rattle.trammelbud.proofs.tb_read_query.Reads as ReadQueryCall
use Rattle.trammelbud.proofs.tb_read_program.Reads as ReadProgramCall
use Rattle.trammelbud.proofs.tb_shred.Reads as ShredCall
use Rattle.trammelbud.proofs.tb_rebuild.Reads as RebuildCall
use Rattle.trammelbud.proofs.tb_translate.Reads as TranslateCall
use Rattle.trammelbud.proofs.tb_check.Reads as CheckCall
use Rattle.trammelbud.proofs.tb_run.Reads as RunCall
use Rattle.trammelbud.proofs.tb_select.Reads as SelectCall
use Rattle.trammelbud.proofs.tb_list.Reads as ListCall
use Rattle.trammelbud.proofs.Outcomes.{Slice, Buffer, Slices1, Slices2, Slices3, Slices5, OnGraph, OnFile, Writing, Running, TbReadGraph, TbReadDocument, TbReadTables, TbReadQuery, TbReadProgram, TbShred, TbRebuild, TbTranslate, TbCheck, TbRun, TbSelect, TbList, AsksNothing}

-- the outcome is this one: it is allowed, and no other is
pub record Is {A : Type 0} (Allowed : A → Type 0) (e : A) : Type 0 where
  pub allowed : Allowed e
  pub only : (a : A) → Allowed a → a ≡ e

-- bytes somewhere in memory
abbrev lying : List ℕ → Slice
lying bytes = record { ref_ptr = (0, 0); now = bytes }

abbrev lent : List ℕ → Buffer
lent bytes = record { ref_ptr = (0, 0); ghost_name = 0; now = bytes }

-- Where a contract says the same as an equation to a definition, the definition's value is the outcome: for each shape of call.
on_graph : (Post : Lfts 1 → Slices1 → Answer → Slices1 → Type 0) (e : List ℕ → Answer)
    → ((κs : Lfts 1) (g : Slice) (a : Answer) → Post κs (g, tt) a (g, tt) → a ≡ e g.now)
    → ((κs : Lfts 1) (g : Slice) → Post κs (g, tt) (e g.now) (g, tt))
    → (gra : List ℕ) → Is (OnGraph Post gra) (e gra)
on_graph Post e says meets gra = record {
  allowed = record { lives = ([], tt); graph = lying gra; graph_is = refl; post = meets ([], tt) (lying gra) };
  only = λ a c. rw c.graph_is at (says c.lives c.graph a c.post);
}

on_file : {R : Type 0} (Post : Lfts 2 → Slices2 → R → Slices2 → Type 0) (e : List ℕ → List ℕ → R)
    → ((κs : Lfts 2) (g f : Slice) (a : R) → Post κs (g, (f, tt)) a (g, (f, tt)) → a ≡ e g.now f.now)
    → ((κs : Lfts 2) (g f : Slice) → Post κs (g, (f, tt)) (e g.now f.now) (g, (f, tt)))
    → (gra file : List ℕ) → Is (OnFile Post gra file) (e gra file)
on_file Post e says meets gra file =
    let κs : Lfts 2 = ([], ([], tt)) in
    record {
      allowed = record { lives = κs; graph = lying gra; under = lying file; graph_is = refl; file_is = refl; post = meets κs (lying gra) (lying file) };
      only = λ a c. rw (c.graph_is, c.file_is) at (says c.lives c.graph c.under a c.post);
    }

writing : (Post : Lfts 3 → Slices3 → Answer → Slices3 → Type 0) (e : List ℕ → List ℕ → List ℕ → Lent)
    → ((κs : Lfts 3) (g f : Slice) (b x : Buffer) (a : Answer) → Post κs (g, (f, (b, tt))) a (g, (f, (x, tt))) → Leaves (e g.now f.now b.now) a x.now)
    → ((κs : Lfts 3) (g f : Slice) (b x : Buffer) (a : Answer) → Leaves (e g.now f.now b.now) a x.now → Post κs (g, (f, (b, tt))) a (g, (f, (x, tt))))
    → (gra file out : List ℕ) → Is (Writing Post gra file out) (e gra file out)
writing Post e says meets gra file out =
    let κs : Lfts 3 = ([], ([], ([], tt))) in
    let left = e gra file out in
    record {
      allowed = record {
        lives = κs;
        graph = lying gra;
        under = lying file;
        before = lent out;
        after = lent left.bytes;
        graph_is = refl;
        file_is = refl;
        before_is = refl;
        after_is = refl;
        post = meets κs (lying gra) (lying file) (lent out) (lent left.bytes) left.answer refl;
      };
      only = λ l c. sym (rw (c.graph_is, c.file_is, c.before_is, c.after_is) at (says c.lives c.graph c.under c.before c.after l.answer c.post));
    }

running : (Post : Lfts 5 → Slices5 → Answer → Slices5 → Type 0) (e : List ℕ → List ℕ → List ℕ → List ℕ → List ℕ → Ran)
    → ((κs : Lfts 5) (g t f : Slice) (b w x y : Buffer) (a : Answer) → Post κs (g, (t, (f, (b, (w, tt))))) a (g, (t, (f, (x, (y, tt))))) → Gives (e g.now t.now f.now b.now w.now) a x.now y.now)
    → ((κs : Lfts 5) (g t f : Slice) (b w x y : Buffer) (a : Answer) → Gives (e g.now t.now f.now b.now w.now) a x.now y.now → Post κs (g, (t, (f, (b, (w, tt))))) a (g, (t, (f, (x, (y, tt))))))
    → (gra edg file out work : List ℕ) → Is (Running Post gra edg file out work) (e gra edg file out work)
running Post e says meets gra edg file out work =
    let κs : Lfts 5 = ([], ([], ([], ([], ([], tt))))) in
    let left = e gra edg file out work in
    record {
      allowed = record {
        lives = κs;
        graph = lying gra;
        tables = lying edg;
        under = lying file;
        out_before = lent out;
        work_before = lent work;
        out_after = lent left.out;
        work_after = lent left.work;
        graph_is = refl;
        tables_is = refl;
        file_is = refl;
        out_is = refl;
        work_is = refl;
        out_left = refl;
        work_left = refl;
        post = meets κs (lying gra) (lying edg) (lying file) (lent out) (lent work) (lent left.out) (lent left.work) left.answer refl;
      };
      only = λ r c.
          sym (rw (c.graph_is, c.tables_is, c.file_is, c.out_is, c.work_is, c.out_left, c.work_left) at
          (says c.lives c.graph c.tables c.under c.out_before c.work_before c.out_after c.work_after r.answer c.post));
    }

-- the twelve calls
pub read_graph_is : (gra : List ℕ) → Is (TbReadGraph gra) (read_graph gra)
read_graph_is = on_graph ReadGraphCall.Post read_graph (λ κs g a p. p) (λ κs g. refl)

pub read_document_is : (gra file : List ℕ) → Is (TbReadDocument gra file) (read_document gra file)
read_document_is = on_file ReadDocumentCall.Post read_document (λ κs g f a p. p) (λ κs g f. refl)

pub read_tables_is : (gra file : List ℕ) → Is (TbReadTables gra file) (read_tables gra file)
read_tables_is = on_file ReadTablesCall.Post read_tables (λ κs g f a p. p) (λ κs g f. refl)

pub read_query_is : (gra file : List ℕ) → Is (TbReadQuery gra file) (read_query gra file)
read_query_is = on_file ReadQueryCall.Post read_query (λ κs g f a p. p) (λ κs g f. refl)

pub read_program_is : (gra file : List ℕ) → Is (TbReadProgram gra file) (read_program gra file)
read_program_is = on_file ReadProgramCall.Post read_program (λ κs g f a p. p) (λ κs g f. refl)

pub check_is : (gra file : List ℕ) → Is (TbCheck gra file) (check_of gra file)
check_is = on_file CheckCall.Post check_of (λ κs g f a p. p) (λ κs g f. refl)

pub shred_is : (gra file out : List ℕ) → Is (TbShred gra file out) (shredded gra file out)
shred_is = writing ShredCall.Post shredded (λ κs g f b x a p. p) (λ κs g f b x a p. p)

pub rebuild_is : (gra file out : List ℕ) → Is (TbRebuild gra file out) (rebuilt gra file out)
rebuild_is = writing RebuildCall.Post rebuilt (λ κs g f b x a p. p) (λ κs g f b x a p. p)

pub translate_is : (gra file out : List ℕ) → Is (TbTranslate gra file out) (translation gra file out)
translate_is = writing TranslateCall.Post translation (λ κs g f b x a p. p) (λ κs g f b x a p. p)

pub run_is : (gra edg file out work : List ℕ) → Is (TbRun gra edg file out work) (run_of gra edg file out work)
run_is = running RunCall.Post run_of (λ κs g t f b w x y a p. p) (λ κs g t f b w x y a p. p)

pub select_is : (gra edg file out work : List ℕ) → Is (TbSelect gra edg file out work) (select_of gra edg file out work)
select_is = running SelectCall.Post select_of (λ κs g t f b w x y a p. p) (λ κs g t f b w x y a p. p)

pub list_is : (gra edg file out work : List ℕ) → Is (TbList gra edg file out work) (list_of gra edg file out work)
list_is = running ListCall.Post list_of (λ κs g t f b w x y a p. p) (λ κs g t f b w x y a p. p)

pub asks_nothing : AsksNothing
asks_nothing = record {
  read_graph = λ κs handed. tt;
  read_document = λ κs handed. tt;
  read_tables = λ κs handed. tt;
  read_query = λ κs handed. tt;
  read_program = λ κs handed. tt;
  shred = λ κs handed. tt;
  rebuild = λ κs handed. tt;
  translate = λ κs handed. tt;
  check = λ κs handed. tt;
  run = λ κs handed. tt;
  select = λ κs handed. tt;
  list = λ κs handed. tt;
}

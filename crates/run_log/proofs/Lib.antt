pub mod LogLaws

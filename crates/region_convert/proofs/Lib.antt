pub mod ConvertAnswers
